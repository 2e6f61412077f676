mod Arguments
mod Cores
mod FormLaws
mod LineLaws
pub mod ScriptLaws
mod Drafting
mod Going
mod Files
mod ItemLaws
pub mod ScheduleLaws
mod ItemsGoing
