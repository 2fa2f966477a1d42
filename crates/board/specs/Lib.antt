-- What the contracts of `board` cite, and the statements of its theorems.
pub mod rules
pub mod inside
pub mod promises
