pub mod Causes
pub mod Contents
pub mod Failures
pub mod Files
pub mod Depots
pub mod Sinks
pub mod Real
