-- The statements of theorems.
pub mod Board
