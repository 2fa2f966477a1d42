-- Statements of theorems.
pub mod Collared
