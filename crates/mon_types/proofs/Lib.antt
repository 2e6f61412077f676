pub mod Below
pub mod Sets
pub mod Rows
pub mod RegionRows
pub mod EnclaveRows
pub mod ThreadRows
