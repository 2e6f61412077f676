pub mod Causes
pub mod Routes
pub mod Looks
pub mod Touched
pub mod Words
