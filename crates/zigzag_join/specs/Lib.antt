pub mod Counts
pub mod Gathering
pub mod Joins
pub mod Lists
pub mod NoDevice
