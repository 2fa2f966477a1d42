-- What the contracts of `trade` cite.
pub mod rules
pub mod inside
