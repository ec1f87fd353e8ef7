pub mod Bodies
pub mod Laws
pub mod Needed
pub mod Path
pub mod Postings
pub mod Trails
pub mod Whole
pub mod Written
