-- The laws of a part of a run.
pub mod Going
pub mod Stores
pub mod Ready
pub mod Enters
pub mod Turns
pub mod Waits
pub mod Refusals
