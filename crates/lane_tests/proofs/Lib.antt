-- The laws that this crate's loops stand on, and those of the counts.
pub mod Flags
pub mod Counts
pub mod Bits
pub mod Places
pub mod Apart
