-- The laws by which an event is written.
pub mod Answers
