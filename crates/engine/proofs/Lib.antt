-- The theorem of `engine`.
pub mod Settled
