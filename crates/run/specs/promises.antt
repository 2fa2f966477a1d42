-- What is promised of every run.
pub mod Demands
pub mod InPlace
pub mod Figures
