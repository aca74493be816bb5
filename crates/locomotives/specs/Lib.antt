-- The definitions that the contracts cite. A reader of 02 wants Rules; Parts has what inner functions compute.
pub mod Rules
pub mod Parts
