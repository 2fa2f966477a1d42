-- Laws and theorems of `moving`.
pub mod MoveLaws
pub mod CodeLaws
pub mod Theorems
pub mod Settled
