-- The steps that a number refuses.
pub mod Steps
