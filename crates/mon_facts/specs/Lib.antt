pub mod Tables
pub mod Facts
pub mod Laws
