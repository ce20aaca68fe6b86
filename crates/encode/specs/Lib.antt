-- The definitions that the parts of writing an event are held to.
pub mod Written
