pub mod HashTrails
pub mod Indexed
pub mod Kept
pub mod NodeCells
pub mod Postings
pub mod Stamps
pub mod Trails
