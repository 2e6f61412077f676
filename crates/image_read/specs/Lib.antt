pub mod Image
pub mod Told
pub mod Grammar
pub mod Reading
