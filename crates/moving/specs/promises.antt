-- Statements of theorems.
pub mod Moves
