-- Lines with more idle entries, and the steps of a version with fewer lanes.
pub mod Widened
pub mod FewerLanes
