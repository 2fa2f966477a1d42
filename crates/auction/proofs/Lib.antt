-- Laws and theorems of `auction`.
pub mod Accepted
pub mod CollaredLaws
pub mod Settled
