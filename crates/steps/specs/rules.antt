-- The auction lent and updated in place.
pub mod Lent
