-- What a position needs of a view.
pub mod Tiling
