-- What the linked functions answer.
pub mod Embedded
pub mod AnswerText
