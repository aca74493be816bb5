-- The laws that belong to no one function. A reader of the letter wants Demands, one of older files Before and Untimed.
pub mod Asking
pub mod SixRows
pub mod Ranged
pub mod Marks
pub mod Chains
pub mod Outcomes
pub mod Unreached
pub mod Numbers
pub mod Bag
pub mod Same
pub mod Units
pub mod Agreement
pub mod Demands
pub mod Before
pub mod Untimed
pub mod Examples
