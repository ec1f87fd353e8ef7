pub mod Comparing
pub mod Costing
pub mod Finding
pub mod Licence
pub mod Loaned
