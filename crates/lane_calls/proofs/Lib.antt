-- The laws of the calls 02 to 09.
pub mod Refused
pub mod Steps
