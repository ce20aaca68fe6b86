-- The decisions of the calls on records.
pub mod Records
