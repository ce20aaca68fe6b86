-- The run of a sheet, and what `linebook` prints of it.
pub mod Run
pub mod Text
pub mod Print
