pub mod Bodies
pub mod ContentCells
pub mod Layouts
pub mod OneKind
pub mod OneRecord
pub mod Passed
