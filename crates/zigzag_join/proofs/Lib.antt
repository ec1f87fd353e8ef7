pub mod Gathering
pub mod Joining
pub mod SlotCounts
