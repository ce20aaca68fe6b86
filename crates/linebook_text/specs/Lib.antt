-- What linebook prints, in a lent buffer.
pub mod Whole
