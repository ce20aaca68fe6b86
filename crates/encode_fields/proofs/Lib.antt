-- The laws by which fields are stored one after the other.
pub mod Puts
pub mod Unsigned
