-- The laws of the table.
pub mod Cells
pub mod Lanes
pub mod Tables
