-- The laws of the table, and how the loops that fill it move on.
pub mod Laws
pub mod Walk
pub mod Edges
