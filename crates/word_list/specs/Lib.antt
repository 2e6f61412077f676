pub mod Listed
pub mod Finds
pub mod Pieces
pub mod Records
pub mod Kept
pub mod Tables
