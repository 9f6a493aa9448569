pub mod ArgForms
pub mod JudgedWords
pub mod Numbers
