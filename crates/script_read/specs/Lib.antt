pub mod Cores
pub mod Grammar
pub mod Forms
pub mod Reading
pub mod Answers
pub mod Drafts
pub mod Schedule
