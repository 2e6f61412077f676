pub mod Workload
pub mod Generated
