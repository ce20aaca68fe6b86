-- The laws of the kind and the lane of a call.
pub mod LaneKinds
pub mod Heads
