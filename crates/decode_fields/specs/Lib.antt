-- The definitions that the readers of fields are held to.
pub mod Fields
