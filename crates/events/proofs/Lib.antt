-- Laws and theorems of `events`.
pub mod SightLaws
pub mod Settled
