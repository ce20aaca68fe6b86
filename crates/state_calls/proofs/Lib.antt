-- The laws behind calls over state bytes.
pub mod Meets
pub mod Numbers
