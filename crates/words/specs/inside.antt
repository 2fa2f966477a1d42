-- What proofs of rows of words speak of, and what writers of bytes say.
pub mod Row
pub mod Writing
