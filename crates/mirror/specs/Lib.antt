-- What the contracts of `mirror` cite, and what is promised of it.
pub mod rules
pub mod promises
