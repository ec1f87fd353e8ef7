pub mod Among
pub mod Finding
pub mod Laws
pub mod Looking
pub mod LookingUp
pub mod Matching
pub mod Reaching
