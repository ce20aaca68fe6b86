-- The edges of document 01, as claims about the definitions.
pub mod Edges
