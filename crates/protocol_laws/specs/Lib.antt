pub mod Known
pub mod Sound
pub mod Safe
