-- The definitions that the contracts cite. A reader of 01 wants Rules; Parts has what inner functions compute.
pub mod Rules
pub mod Parts
