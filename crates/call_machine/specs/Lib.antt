pub mod Found
pub mod Named
pub mod Rest
pub mod Meaning
pub mod Count
pub mod Stands
pub mod Kept
