-- A tape moved from one form to the other.
pub mod Moving
