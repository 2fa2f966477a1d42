-- The words of the promise, and the promise.
pub mod rules
pub mod promises
