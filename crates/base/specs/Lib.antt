-- Words for lists, a price's mirror, what a writer says, and what it is that a contract settles.
pub mod Lists
pub mod Price
pub mod Writing
pub mod Settled
pub mod Refusal
