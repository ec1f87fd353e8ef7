pub mod AddsOne
pub mod Alarms
pub mod EndedAs
pub mod Kept
pub mod LeftByIngest
pub mod LeftWhole
pub mod LookedAt
pub mod PlanPhases
pub mod PutCells
pub mod PutPlans
pub mod ReserveCells
pub mod SettlingAlarms
pub mod SoundRules
mod StampLeft
pub mod Steady
pub mod WellPlanned
