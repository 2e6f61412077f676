pub mod Listing
pub mod Everywhere
pub mod Rows
pub mod Start
pub mod Made
pub mod Finished
pub mod Trying
pub mod Reading
