-- The laws of the report of waiting.
pub mod Rows
pub mod Lanes
pub mod Shape
pub mod Refusal
pub mod Grown
pub mod Means
pub mod Trials
