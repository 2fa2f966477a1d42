-- Pro rata, and fills.
pub mod Share
pub mod Fills
