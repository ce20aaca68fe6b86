-- The laws of the notation.
pub mod Laws
pub mod Exits
pub mod Halves
pub mod Characters
pub mod Pairs
pub mod RoundTrip
pub mod Looks
