pub mod Fresh
pub mod Cores
pub mod Stands
pub mod Steps
pub mod Rounds
