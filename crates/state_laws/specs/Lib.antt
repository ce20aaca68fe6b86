-- Chains of calls over state bytes.
pub mod Chains
