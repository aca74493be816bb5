-- The laws that belong to no one function.
pub mod Standard
pub mod Ranges
