-- The definitions that the readers of bodies are held to.
pub mod Body
