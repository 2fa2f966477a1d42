-- What the user is promised.
pub mod Parts
pub mod Below
pub mod Promise
