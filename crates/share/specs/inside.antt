-- What private functions of the crates above give.
pub mod Fills
pub mod Cut
