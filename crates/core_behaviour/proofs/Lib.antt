pub mod Words
pub mod Stopping
pub mod Lagging
pub mod RunLaws
