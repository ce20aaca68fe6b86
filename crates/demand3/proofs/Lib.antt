-- The proof of demand 3.
pub mod Turn
pub mod Trace
pub mod Status
pub mod Places
pub mod Goes
pub mod Theorem
pub mod Longest
pub mod Appended
pub mod Sheets
