pub mod Laws
pub mod SettlingLaws
pub mod SettlingSteadiness
pub mod Steadiness
