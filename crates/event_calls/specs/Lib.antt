-- The outcome of a call whose bytes give no event; the other contracts are those of `steps`.
pub mod Refused
