-- Whether a sheet is notation by mistake.
pub mod Mistake
