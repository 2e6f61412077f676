pub mod Cut
pub mod Steps
pub mod Parsed
pub mod Files
