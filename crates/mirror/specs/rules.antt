-- The mirror, as document 01 has it.
pub mod Mirror
