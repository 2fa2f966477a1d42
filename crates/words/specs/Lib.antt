-- What the contracts of `words` cite, and what its bits mean.
pub mod rules
pub mod inside
pub mod promises
