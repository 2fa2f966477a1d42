-- The theorem of `engine_c`.
pub mod Settled
