-- What is promised of the records of a tape, and of whole tapes, beyond each function's own contract.
pub mod promises
