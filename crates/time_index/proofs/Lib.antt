pub mod NextPostings
pub mod Parts
pub mod Matched
pub mod SoFar
pub mod Searched
pub mod AskingStamps
