pub mod Outcomes
pub mod Given
pub mod Finished
pub mod Laws
