pub mod AddedOn
pub mod Begun
pub mod Compared
pub mod Copied
pub mod First
mod ForRoom
mod OnePairs
pub mod PairLists
pub mod PartSlots
pub mod Slots
pub mod Stayed
mod Unhindered
pub mod Walked
pub mod WholeVolumes
