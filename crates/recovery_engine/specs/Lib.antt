pub mod CrashLaws
pub mod Ending
pub mod Entries
pub mod Journal
pub mod LastSlot
pub mod Putting
pub mod Settling
