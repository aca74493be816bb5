-- The laws that belong to no one function.
pub mod Emissions
pub mod Refusals
