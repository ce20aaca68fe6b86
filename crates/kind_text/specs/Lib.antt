-- What the line of an answer to a lane's call is held to.
pub mod Put
