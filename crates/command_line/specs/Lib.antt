pub mod Asking
pub mod Laws
pub mod Lines
pub mod Requests
pub mod Words
