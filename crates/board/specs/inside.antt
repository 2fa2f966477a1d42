-- What private functions that walk the places give.
pub mod Places
