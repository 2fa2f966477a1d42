-- The theorem of `fills`.
pub mod Settled
