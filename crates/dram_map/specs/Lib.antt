pub mod Addresses
pub mod Words
pub mod Lanes
pub mod ByWord
