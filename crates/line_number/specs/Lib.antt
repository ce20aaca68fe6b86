-- What a line's number is held to.
pub mod Numbered
