pub mod Holds
pub mod Place
pub mod Whole
pub mod Known
pub mod Event
pub mod Log
pub mod Logs
pub mod Verdict
