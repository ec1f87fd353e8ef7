pub mod OneByOne
pub mod OneKind
pub mod OneReading
pub mod OneScript
pub mod WithinLimits
