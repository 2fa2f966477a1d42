-- The listing, as document 01 has it, and the watch.
pub mod Text
pub mod Listing
pub mod Watch
