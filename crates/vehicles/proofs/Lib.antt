-- The laws that belong to no one function.
pub mod Ranges
pub mod Periods
pub mod Paper
pub mod Bounds
