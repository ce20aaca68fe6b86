-- What an event calls.
pub mod Scope
