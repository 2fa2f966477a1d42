-- The words that the promise is said in.
pub mod Answers
pub mod Tapes
pub mod Sides
pub mod Events
pub mod Orders
