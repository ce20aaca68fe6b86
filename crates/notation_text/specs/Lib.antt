-- What is said of notation that is refused.
pub mod Message
