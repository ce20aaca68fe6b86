-- The laws of a trace.
pub mod Widths
pub mod Rows
pub mod Within
pub mod Texts
pub mod Tallies
pub mod Runs
pub mod Figures
