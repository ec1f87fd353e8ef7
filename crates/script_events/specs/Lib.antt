pub mod Events
pub mod Json
pub mod Grammar
pub mod Scripts
