-- Pro rata and fills, what is promised of pro rata, and what a writer of fills says.
pub mod rules
pub mod promises
pub mod inside
