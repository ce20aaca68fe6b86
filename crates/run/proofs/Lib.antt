-- The laws of the run.
pub mod Last
pub mod Going
