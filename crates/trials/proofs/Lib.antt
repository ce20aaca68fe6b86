-- The proofs of the claims.
pub mod ExampleSheet
pub mod Trials
