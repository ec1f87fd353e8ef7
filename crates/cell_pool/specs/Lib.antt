pub mod Faults
pub mod Grants
pub mod Records
