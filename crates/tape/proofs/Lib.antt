-- Laws of `tape`.
pub mod RecordLaws
pub mod FormLaws
pub mod KindLaws
pub mod HoldsLaws
pub mod Settled
