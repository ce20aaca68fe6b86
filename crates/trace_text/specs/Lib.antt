-- The trace of a run in words, a line of it, and the steps that print it.
pub mod TraceLine
pub mod Trace
pub mod Steps
