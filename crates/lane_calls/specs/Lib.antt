-- What the calls of a lane change.
pub mod Decided
