-- The laws of the search for the next lane and of the words that it goes by, and their edges.
pub mod Laws
pub mod Lowered
pub mod Nearest
pub mod WordLaws
pub mod Edges
