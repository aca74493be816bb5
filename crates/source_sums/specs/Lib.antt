-- The definitions that the contracts cite.
pub mod Added
pub mod Lent
