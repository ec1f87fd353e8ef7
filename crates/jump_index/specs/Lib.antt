pub mod Evidence
pub mod Keeping
pub mod Looking
pub mod Searches
