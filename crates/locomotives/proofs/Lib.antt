-- The laws that belong to no one function. A reader of 02 wants Bounds, what the answers are worth, and Refusals.
pub mod Scales
pub mod Ranges
pub mod Paper
pub mod Bounds
pub mod Modes
pub mod Refusals
