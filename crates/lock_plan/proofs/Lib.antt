pub mod Places
pub mod Room
pub mod Order
pub mod Sets
