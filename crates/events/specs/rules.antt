-- What an event does, as documents 01 and 02 have it.
pub mod Step
