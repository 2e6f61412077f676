-- The lemmas, each file with what it shows at its head.
mod Puts
pub mod Said
pub mod Leaves
