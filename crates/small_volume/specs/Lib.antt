pub mod Images
pub mod SmallVolume
pub mod StampedVolume
pub mod ForeignCells
