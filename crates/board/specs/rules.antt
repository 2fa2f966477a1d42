-- The board, as documents 01 and 02 have it.
pub mod Board
