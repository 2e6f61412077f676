mod Tallies
pub mod Short
pub mod Shapes
pub mod ReadFields
pub mod ReadLoops
pub mod Found
pub mod FoundParts
pub mod Again
pub mod ImageFiles
