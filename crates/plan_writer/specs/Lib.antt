pub mod Blank
pub mod CrashLaws
pub mod Planned
pub mod PuttingPlans
