pub mod Places
pub mod Cuts
pub mod Lines
pub mod Words
pub mod Digits
pub mod Numbers
pub mod Decimals
