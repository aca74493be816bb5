-- What the questions are told.
pub mod Told
