-- What the contracts of `reader` cite, and what is promised of reading on.
pub mod rules
pub mod promises
