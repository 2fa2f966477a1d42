-- What the contracts of `listing` cite, and the statements of its theorems.
pub mod rules
pub mod promises
pub mod inside
