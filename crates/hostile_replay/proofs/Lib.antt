mod Abandoned
pub mod Along
pub mod CommitsFirst
pub mod Committing
mod Complete
mod Evident
mod Exact
mod HeldIngests
mod LastDocuments
mod LookingUp
mod OfWords
mod Playing
pub mod Reading
mod Returned
mod Rows
mod Standing
pub mod StoredIngests
pub mod Undisturbed
mod Whole
