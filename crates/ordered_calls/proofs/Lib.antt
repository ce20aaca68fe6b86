-- The laws of the loop over the lanes, and of the steps of an entry.
pub mod Started
pub mod Steps
pub mod Calls
