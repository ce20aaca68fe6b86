-- The laws of changes.
pub mod Steps
pub mod Within
pub mod Counts
