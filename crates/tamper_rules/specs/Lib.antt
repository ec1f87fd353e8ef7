pub mod Journals
pub mod Rules
pub mod Settling
pub mod SettlingLaws
