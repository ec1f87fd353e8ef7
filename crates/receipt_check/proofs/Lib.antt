pub mod Accepting
pub mod Comparing
pub mod KeptByList
pub mod Later
pub mod Made
pub mod MakingAccepted
pub mod PathTrails
pub mod SlotReceipts
