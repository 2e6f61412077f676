pub mod Scripted
pub mod Own
pub mod Remains
pub mod Meaning
pub mod Kept
pub mod Follows
pub mod Start
pub mod Effort
