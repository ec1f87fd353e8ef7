pub mod Among
pub mod Folding
pub mod Places
pub mod Reading
pub mod RowWords
pub mod Rows
pub mod Seeking
pub mod Ways
