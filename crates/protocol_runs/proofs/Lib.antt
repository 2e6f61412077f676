mod ByHand
mod ByRight
mod Passing
mod Begins
mod Early
