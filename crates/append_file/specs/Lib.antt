pub mod Pieces
pub mod Reading
pub mod Rows
pub mod StoredCells
