-- Theorems about the records of a tape.
pub mod RoundTrip
pub mod Whole
pub mod TapeBack
