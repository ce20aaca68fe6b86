-- What an entry into an ordered call comes to, and its outcome.
pub mod Settled
