-- The laws by which fields are read one after the other.
pub mod Numbers
pub mod Signed
pub mod InOrder
