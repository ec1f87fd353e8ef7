pub mod CellsSoFar
pub mod GoingOn
pub mod RowsOn
pub mod Spelled
