-- What a part of a run is held to.
pub mod Parts
