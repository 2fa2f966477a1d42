-- Statements of theorems.
pub mod Demands
pub mod Shares
