-- The laws behind the calls that set the line up.
pub mod Steps
pub mod Calls
