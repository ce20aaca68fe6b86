-- The definitions of the reader.
pub mod Reader
