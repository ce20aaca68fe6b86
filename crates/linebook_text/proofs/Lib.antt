-- The run from an unopened line, and that its text is what linebook prints.
pub mod Fresh
pub mod Linebook
