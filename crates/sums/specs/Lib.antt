-- The definitions that the contracts cite.
pub mod Choice
pub mod Fraction
pub mod Table
pub mod Figures
pub mod Answer
pub mod Arithmetic
pub mod Exactness
