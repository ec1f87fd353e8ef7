pub mod Counting
pub mod EntryReads
pub mod FrontReads
pub mod Knowing
pub mod KnownReads
pub mod KeptRowing
pub mod OneBlock
pub mod Rowing
