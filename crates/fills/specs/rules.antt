-- The fills, as document 01 has them.
pub mod Fills
