-- The laws behind a call of an event.
pub mod Unsound
pub mod Changed
