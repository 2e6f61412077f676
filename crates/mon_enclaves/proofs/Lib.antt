pub mod Alike
pub mod ByNone
