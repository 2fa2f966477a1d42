-- Theorems of `steps`.
pub mod Settled
