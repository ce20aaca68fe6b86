-- What refuses a call on the whole line.
pub mod Refusal
