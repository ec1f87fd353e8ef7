pub mod Bodies
pub mod Checking
pub mod Fronts
pub mod Holding
pub mod Naming
pub mod Parsing
pub mod PutSoFar
pub mod SoFar
