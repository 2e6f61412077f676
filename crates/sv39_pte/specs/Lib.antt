pub mod Pte
pub mod Tables
pub mod Laws
