-- Calls and questions over the state bytes of a line.
pub mod StateCalls
pub mod Told
