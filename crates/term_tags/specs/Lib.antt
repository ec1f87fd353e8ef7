pub mod Keys
pub mod Known
pub mod Listing
