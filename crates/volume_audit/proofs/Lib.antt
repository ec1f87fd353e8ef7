pub mod Audited
pub mod Comes
pub mod Counting
pub mod Ended
pub mod Judged
pub mod Passing
