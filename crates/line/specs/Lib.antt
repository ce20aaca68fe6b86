-- The definitions of document 01's section "The line".
pub mod Line
pub mod Sound
