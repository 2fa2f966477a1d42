-- Laws of bools, numbers and lists; what its functions' contracts settle.
pub mod Bools
pub mod Numbers
pub mod ListLaws
pub mod SetsLaws
pub mod WriteLaws
pub mod RefusalLaws
pub mod Settled
