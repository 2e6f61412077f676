pub mod Digits
pub mod Sets
pub mod Joined
pub mod Pieces
