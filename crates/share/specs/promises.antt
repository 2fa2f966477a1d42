-- The statements of theorems.
pub mod Share
