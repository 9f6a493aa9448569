pub mod Texts
pub mod Accepted
pub mod LineStarts
pub mod Told
pub mod Checked
pub mod OneRun
