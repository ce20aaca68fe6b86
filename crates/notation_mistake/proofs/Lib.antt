-- The laws of sheets that are events to their end.
pub mod Whole
