-- Laws and theorems of `decision`.
pub mod Settled
