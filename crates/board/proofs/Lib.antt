-- Laws, theorems and worked examples of `board`.
pub mod LiveLaws
pub mod PlaceLaws
pub mod FindLaws
pub mod SequenceLaws
pub mod FirstLaws
pub mod BoardLaws
pub mod Theorems
pub mod Examples
pub mod Settled
