-- The table of examples, and the two desks.
pub mod Examples
pub mod Desks
