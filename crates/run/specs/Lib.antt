-- The run that the listing prints, and what is promised of every one.
pub mod rules
pub mod promises
