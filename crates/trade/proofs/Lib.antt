-- Laws that belong to no one function.
pub mod PlanLaws
pub mod CodeLaws
pub mod FoundLaws
pub mod NearLaws
pub mod WriteLaws
pub mod RunLaws
pub mod NarrowLaws
pub mod StepLaws
pub mod LevelLaws
pub mod ServeLaws
pub mod WholeLaws
pub mod Lists
pub mod Levels
pub mod Walk
pub mod Counts
pub mod Settled
