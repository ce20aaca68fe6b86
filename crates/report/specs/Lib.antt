-- The report of waiting.
pub mod Rows
pub mod Growth
pub mod Lent
