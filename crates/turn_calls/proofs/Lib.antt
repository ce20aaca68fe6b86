-- The laws of the calls of the waitlist.
pub mod Steps
pub mod Regular
