-- Laws that belong to no one function.
pub mod CutLaws
pub mod ShareLaws
pub mod FillsLaws
pub mod Examples
