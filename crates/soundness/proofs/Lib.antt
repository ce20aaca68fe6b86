-- The laws that this crate's loops and tests stand on.
pub mod Laws
