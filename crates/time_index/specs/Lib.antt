pub mod Asking
pub mod Gathering
pub mod Matching
pub mod Postings
pub mod Spans
