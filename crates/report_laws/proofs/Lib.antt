-- The laws of the report of waiting over runs.
pub mod Counting
pub mod Releases
pub mod Lanes
pub mod Bounds
pub mod AllLanes
pub mod Unended
pub mod Calls
pub mod Trials
