-- The laws of the run of a sheet.
pub mod Runs
pub mod OldBytes
