-- Statements of theorems.
pub mod Reading
