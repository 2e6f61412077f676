pub mod Holding
pub mod Standing
pub mod Flushing
pub mod Right
pub mod Finding
pub mod Logged
pub mod Ending
pub mod Judged
