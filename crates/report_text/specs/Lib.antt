-- The table of the report of waiting.
pub mod Table
pub mod Printing
