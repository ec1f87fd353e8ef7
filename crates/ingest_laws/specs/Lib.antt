pub mod Filling
pub mod Ingesting
pub mod ListShapes
pub mod Needs
pub mod SettledShapes
pub mod TreeShapes
