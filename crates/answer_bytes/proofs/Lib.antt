-- The laws behind the bytes of an answer.
pub mod Words
pub mod RoundTrip
