pub mod Cache
pub mod Sets
pub mod Laws
