-- What a slot file answers, by definition. A reader of 01 wants, in this order: Sources, Questions, Walk, Codes, Figures, Alike, Listing, Surveyed; Meaning says what an outcome
-- means in words that know no walk, Demands what the letter demands, Before what 01 alone says, and Untimed what was said before warm-ups were timed. Parts has what the code's marks and sums hold.
pub mod Sources
pub mod Questions
pub mod Walk
pub mod Meaning
pub mod Codes
pub mod Figures
pub mod Alike
pub mod Listing
pub mod Untimed
pub mod Surveyed
pub mod Demands
pub mod Before
pub mod Parts
