-- What the contracts of `auction` cite, and what is promised of it.
pub mod rules
pub mod promises
