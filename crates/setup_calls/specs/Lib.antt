-- The decisions of the calls that set the line up.
pub mod Setup
pub mod Whence
