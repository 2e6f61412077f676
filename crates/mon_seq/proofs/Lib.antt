pub mod Put
pub mod Gathered
pub mod Passed
pub mod Measured
pub mod Decided
