-- Laws and theorems of `listing`.
pub mod WriterLaws
pub mod DecimalLaws
pub mod FillLaws
pub mod LookLaws
pub mod RunLaws
pub mod LengthLaws
pub mod ListsLaws
pub mod WatchLaws
pub mod Examples
pub mod Theorems
pub mod Settled
