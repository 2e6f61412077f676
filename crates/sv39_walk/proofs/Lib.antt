pub mod Pointers
pub mod Steps
pub mod Related
pub mod Alike
pub mod Places
