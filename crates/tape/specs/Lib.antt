-- What the contracts of `tape` cite, and what is promised of its readers.
pub mod rules
pub mod promises
