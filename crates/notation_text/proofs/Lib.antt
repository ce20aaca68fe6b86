-- The laws of messages.
pub mod Places
