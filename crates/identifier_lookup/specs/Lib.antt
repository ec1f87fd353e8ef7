pub mod Candidates
pub mod Costs
pub mod Walks
