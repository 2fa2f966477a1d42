-- The rules, as document 01 has them.
pub mod Plan
pub mod Trade
pub mod Write
