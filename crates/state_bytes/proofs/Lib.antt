-- The laws behind the state bytes of a line.
pub mod Walk
pub mod Lengths
pub mod RoundTrip
