mod Decimals
pub mod Lines
pub mod Listed
pub mod OneRequest
mod Options
