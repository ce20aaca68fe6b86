-- The laws of records.
pub mod Digits
pub mod Steps
pub mod Regular
