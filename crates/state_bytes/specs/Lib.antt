-- The layout of a line's state in bytes.
pub mod StateBytes
pub mod Entries
