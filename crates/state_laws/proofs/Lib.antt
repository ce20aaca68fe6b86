-- The theorems about chains of calls over state bytes.
pub mod Calls
pub mod Bytes
pub mod Chains
