pub mod EarlierImages
pub mod ImageFiles
