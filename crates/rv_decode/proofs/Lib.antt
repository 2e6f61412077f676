pub mod Opcodes
pub mod Readings
