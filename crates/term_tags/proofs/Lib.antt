pub mod Bodies
pub mod Counting
pub mod KeyLaws
pub mod RowLaws
pub mod Stamps
pub mod TagsAt
pub mod TooMany
