-- What is promised of the fills of an ended auction.
pub mod promises
