pub mod Paths
pub mod Done
pub mod Made
pub mod Loop
pub mod Same
pub mod Runs
pub mod Whole
pub mod Places
