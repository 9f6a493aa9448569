pub mod SaidBy
