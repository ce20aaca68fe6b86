-- The laws of what a run counts of waiting.
pub mod Answers
pub mod Slots
pub mod Growing
pub mod Totals
pub mod Marks
pub mod Reports
