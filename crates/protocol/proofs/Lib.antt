pub mod Before
pub mod Follow
mod Swapping
