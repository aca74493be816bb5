-- What is claimed of the walk (`OnePass`), and what inner functions answer, in which nothing has to be believed.
pub mod Rows
pub mod Reach
pub mod ChainKind
pub mod OnePass
pub mod Units
pub mod ChainWalk
pub mod ThreeChains
