pub mod Begins
pub mod Completing
pub mod Laws
pub mod Telling
pub mod WholeLogs
