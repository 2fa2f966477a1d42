-- What the contracts of `decision` cite.
pub mod rules
