-- What the contracts of `steps` cite, beside those of `events`.
pub mod rules
