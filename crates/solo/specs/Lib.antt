pub mod Given
pub mod Core
pub mod Calls
pub mod Translation
pub mod Turns
pub mod Solo
pub mod Bounds
pub mod Kept
