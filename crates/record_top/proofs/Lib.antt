pub mod Asked
pub mod Asking
pub mod Exercises
pub mod Keeping
pub mod Replays
pub mod Running
pub mod Steadily
