pub mod Objects
pub mod Calls
pub mod Events
pub mod Tables
pub mod Report
