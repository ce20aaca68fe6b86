-- The layout of an answer in bytes.
pub mod AnswerBytes
pub mod Held
