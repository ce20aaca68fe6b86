-- What this crate's functions are held to beside the definitions of the crate `line`.
pub mod Rules
pub mod Places
