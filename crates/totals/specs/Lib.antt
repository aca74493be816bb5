-- The definitions that the contracts cite.
pub mod Totals
pub mod Lent
