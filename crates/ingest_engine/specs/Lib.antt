pub mod Formats
pub mod Indexing
pub mod Ingesting
pub mod Stamps
pub mod StoredCells
