-- What the calls of the waitlist change.
pub mod Turns
