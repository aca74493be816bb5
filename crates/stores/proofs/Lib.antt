-- The laws that belong to no one function. A reader of 01 wants Exactly: what the answers are worth.
pub mod TableTests
pub mod Ranges
pub mod Paper
pub mod Bounds
pub mod Exactly
