-- The theorems about every order and list of events.
pub mod StepLaws
pub mod Resend
pub mod BoardSteps
pub mod SoundLaws
pub mod Amends
pub mod OnOffer
pub mod MarketFrom
pub mod Mirrors
pub mod LentLaws
pub mod Figures
