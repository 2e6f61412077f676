pub mod OneChanged
pub mod TablesKept
pub mod Dated
pub mod SetFacts
pub mod SlotFacts
pub mod ThreadFacts
pub mod FactsKept
