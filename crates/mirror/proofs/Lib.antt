-- Laws and theorems of `mirror`.
pub mod MarkLaws
pub mod EventLaws
pub mod MirrorForm
pub mod Settled
