-- The definitions that the contracts cite. A reader of 01 wants Temperatures and Warmup; Parts has what the functions compute.
pub mod Temperatures
pub mod Warmup
pub mod Parts
