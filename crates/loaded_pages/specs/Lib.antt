pub mod Content
pub mod History
pub mod Path
pub mod Facts
pub mod Laws
