-- What the contracts of standard input and output cite.
pub mod Input
pub mod Output
