pub mod Generator
pub mod Session
