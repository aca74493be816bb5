-- The laws that belong to no one function.
pub mod RowAsks
pub mod GroupAsks
pub mod GroupChain
pub mod StoreChain
pub mod LocomotiveChain
pub mod Bounded
pub mod ExactSums
pub mod Passing
pub mod FileFigures
pub mod Visits
