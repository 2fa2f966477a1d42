-- What the private functions say.
pub mod Code
