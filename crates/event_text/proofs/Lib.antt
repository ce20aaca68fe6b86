-- The laws of sheets in words.
pub mod Reasons
pub mod Shown
