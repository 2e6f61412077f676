pub mod Listing
pub mod About
