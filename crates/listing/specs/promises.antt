-- What is promised of the listing and of the watch.
pub mod Demands
pub mod Watching
