-- The laws of what an event calls.
pub mod Scopes
