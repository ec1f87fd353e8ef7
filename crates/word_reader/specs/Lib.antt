pub mod Matching
pub mod RowWords
pub mod Single
