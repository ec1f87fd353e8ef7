pub mod Breaking
pub mod BytesSeen
pub mod CellsMake
pub mod CellsSeen
pub mod DoneBytes
pub mod DoneRow
pub mod HorizonSoFar
pub mod LooksAsOne
pub mod OneState
pub mod RowSeen
pub mod RowStates
mod SlotWord
pub mod StampRead
