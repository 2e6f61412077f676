pub mod Lines
pub mod Fits
pub mod Forms
pub mod Reading
