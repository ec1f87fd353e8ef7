pub mod Added
mod Adding
pub mod BelowPlans
pub mod Costs
pub mod Greatest
mod Growing
mod Hopping
mod Inserting
pub mod KeptTrails
mod Lasting
pub mod Licence
mod Naming
pub mod Others
mod Placing
mod Planned
mod Putting
mod Readying
mod Searching
mod Showing
mod Tailing
mod Unshown
pub mod Untouched
