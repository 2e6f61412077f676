pub mod Bytes
pub mod Cuts
pub mod Classes
pub mod Lines
pub mod Words
pub mod Numbers
