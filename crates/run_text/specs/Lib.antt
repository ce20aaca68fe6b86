-- The text of a run.
pub mod RunText
