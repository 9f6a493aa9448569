pub mod Numbers
pub mod ToldLeft
