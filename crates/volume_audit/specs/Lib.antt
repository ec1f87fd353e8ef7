pub mod Audits
pub mod Counts
pub mod Judging
pub mod Reports
