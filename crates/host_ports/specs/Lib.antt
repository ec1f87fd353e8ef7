pub mod Memories
pub mod Sinks
pub mod Sources
pub mod Standard
