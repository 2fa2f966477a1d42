-- What the contracts of `moving` cite, and what is promised of a moved tape.
pub mod rules
pub mod inside
pub mod promises
