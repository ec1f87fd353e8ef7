pub mod Bisecting
pub mod Evidence
pub mod Gathered
pub mod Joining
pub mod Landing
pub mod Owed
pub mod Rows
