-- The laws by which bodies are read.
pub mod Bodies
