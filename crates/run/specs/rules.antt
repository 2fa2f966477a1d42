-- A run, as document 01 has it.
pub mod Run
