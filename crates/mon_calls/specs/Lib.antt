pub mod OnHeld
pub mod Replied
pub mod Left
pub mod OnCore
pub mod Decided
