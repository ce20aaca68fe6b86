-- The statement of demand 3, and of its corollaries for Wishes 2 and 4.
pub mod Claim
pub mod Longest
pub mod Appended
