-- The statements of theorems.
pub mod Bits
