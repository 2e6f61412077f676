pub mod Operations
pub mod Loads
pub mod Effects
pub mod Sizes
