-- What the counters of `evening` give.
pub mod Counting
