pub mod Commands
pub mod Copying
pub mod Exercising
pub mod Files
pub mod Limits
pub mod Replaying
pub mod Runs
