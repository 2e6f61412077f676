pub mod Pages
pub mod Lanes
pub mod ByWord
