-- The laws of lines of words.
pub mod Words
