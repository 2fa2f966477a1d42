-- Laws and theorems of `reader`.
pub mod ReaderLaws
pub mod Settled
