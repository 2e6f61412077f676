pub mod Named
pub mod Left
