pub mod Colours
pub mod Hits
pub mod Regions
pub mod Sets
pub mod Tallies
pub mod Grammar
pub mod Reading
pub mod Answers
