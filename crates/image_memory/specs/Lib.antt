pub mod StartMemory
