pub mod Documents
pub mod Events
pub mod Exercising
pub mod Refusing
pub mod Tallies
pub mod Telling
