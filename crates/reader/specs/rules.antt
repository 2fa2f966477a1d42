-- The reader of a tape.
pub mod Reader
