-- The laws that belong to no one function.
pub mod Choices
pub mod Products
pub mod Fractions
pub mod Tables
pub mod Wrapping
pub mod LongDivision
pub mod Nearest
pub mod Rounding
pub mod Exact
pub mod Figure
pub mod Sources
