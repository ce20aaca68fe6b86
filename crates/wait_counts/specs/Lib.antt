-- What a run counts of waiting.
pub mod Counts
pub mod Counting
