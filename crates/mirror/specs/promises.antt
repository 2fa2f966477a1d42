-- Statements of theorems.
pub mod Records
