-- What is decided of an event, as documents 01 and 02 have it.
pub mod Decide
