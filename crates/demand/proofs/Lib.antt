-- The theorems of demand 3, and the laws behind them.
pub mod Lists
pub mod Order
pub mod Levels
pub mod Walk
pub mod Runs
pub mod Counts
pub mod Fair
pub mod Turns
pub mod Limits
pub mod Market
pub mod Theorems
pub mod Shares
pub mod Teeth
pub mod Examples
