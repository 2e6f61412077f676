pub mod Sequential
pub mod Begun
pub mod Put
pub mod Turns
pub mod UpTo
