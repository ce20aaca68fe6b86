-- What the kind and the lane of a call are held to.
pub mod Head
