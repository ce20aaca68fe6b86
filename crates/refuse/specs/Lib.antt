-- The outcome of a refused call.
pub mod Refused
