pub mod Members
pub mod Items
pub mod Readable
pub mod RebuiltStates
pub mod RangesKept
pub mod Early
pub mod Answered
