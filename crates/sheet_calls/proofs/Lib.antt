-- The laws of a lane's call of a sheet.
pub mod Tables
pub mod Active
pub mod Rans
