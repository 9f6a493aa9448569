pub mod Beginnings
pub mod Calling
pub mod Families
pub mod Released
pub mod Results
pub mod States
pub mod Values
