-- The papers' notation for sheets.
pub mod Notation
pub mod Written
