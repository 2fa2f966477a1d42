-- Statements of theorems about what is read.
pub mod Holds
