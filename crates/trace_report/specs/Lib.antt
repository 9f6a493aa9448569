pub mod EventNames
pub mod Reports
