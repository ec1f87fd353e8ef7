pub mod Asking
pub mod Carrying
pub mod InMemory
pub mod OneFile
pub mod TwoFiles
