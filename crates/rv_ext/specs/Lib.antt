pub mod Signed
pub mod Multiply
pub mod Amo
