mod Counted
mod Counting
pub mod Ending
pub mod EventsOn
pub mod Exercised
mod Few
pub mod Leaving
mod Played
mod Refused
mod Rowed
mod Rows
mod Stocked
mod Told
mod Words
