-- Sheets in words.
pub mod Reasons
pub mod Show
