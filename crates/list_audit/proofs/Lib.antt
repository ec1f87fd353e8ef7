mod AllLed
pub mod Blank
pub mod Closing
pub mod EachBlock
mod Ending
mod Following
pub mod Holding
mod Numbering
pub mod RowsListed
pub mod Ordered
pub mod Owing
pub mod Placing
pub mod Spelling
pub mod Stepping
pub mod Tabling
mod Sharing
pub mod Taking
pub mod Trailing
pub mod Walking
