pub mod Heads
pub mod Looks
pub mod Putting
pub mod Standing
