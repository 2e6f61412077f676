pub mod Pieces
pub mod Hex
