-- The proofs of the edges.
pub mod Edges
