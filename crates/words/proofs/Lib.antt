-- Laws and theorems of `words`.
pub mod ByteLaws
pub mod WroteLaws
pub mod BitLaws
pub mod BitTheorems
pub mod BitExamples
mod BitMachine
pub mod Settled
