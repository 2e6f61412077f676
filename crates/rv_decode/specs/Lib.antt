pub mod Formats
pub mod Parts
pub mod Table
pub mod Decoded
