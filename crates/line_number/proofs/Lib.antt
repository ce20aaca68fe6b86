-- The laws of a line's number.
pub mod Digits
pub mod Bytes
pub mod Lines
pub mod Answers
