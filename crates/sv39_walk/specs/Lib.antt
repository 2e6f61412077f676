pub mod Relation
pub mod Walking
pub mod Laws
