pub mod Registers
pub mod Changes
pub mod GuestCalls
pub mod Origins
pub mod Budgets
pub mod Lines
