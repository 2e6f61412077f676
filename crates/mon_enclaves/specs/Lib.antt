pub mod ByWords
pub mod FromItems
pub mod Named
pub mod LoadReply
