pub mod Between
pub mod DocumentLists
pub mod FullFronts
pub mod GivenUp
pub mod GivenUpRules
pub mod GoingOn
mod HeldFirst
pub mod HeldGrows
pub mod Images
pub mod Keeps
pub mod OneAfter
pub mod SameDocuments
pub mod Settled
pub mod SettledLaws
pub mod SettlingGoesOn
pub mod Steady
pub mod Writing
