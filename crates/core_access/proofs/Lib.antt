pub mod Satp
pub mod Told
pub mod Places
