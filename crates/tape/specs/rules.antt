-- The tape, as documents 01 and 02 have it.
pub mod Form
pub mod Kind
pub mod Fields
pub mod Records
pub mod Tape
pub mod Whole
