-- Words in bytes, and the bits of a word.
pub mod Bytes
pub mod Bits
