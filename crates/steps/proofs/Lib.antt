-- The laws of a step.
pub mod CheckingOrder
pub mod Chains
pub mod Cases
pub mod Stored
pub mod Edges
pub mod Release
pub mod Ordered
pub mod Keeps
pub mod Appending
pub mod Lanes
pub mod PastFirst
pub mod Numbers
