-- The laws that belong to no one function.
pub mod Cases
pub mod Cut
pub mod Made
pub mod Signed
pub mod Zeros
