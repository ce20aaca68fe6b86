-- The laws of the tests that come first in every call on a sound line.
pub mod First
pub mod Shape
