pub mod Knowing
pub mod Recently
pub mod Through
