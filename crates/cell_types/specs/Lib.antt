pub mod Bytes
pub mod Contents
pub mod Image
pub mod Layout
pub mod Records
pub mod Refusals
