pub mod Plan
pub mod Records
pub mod Objects
pub mod Laws
pub mod EveryPlan
