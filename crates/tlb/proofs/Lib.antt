pub mod InSets
pub mod Joined
pub mod Filled
pub mod One
pub mod Held
