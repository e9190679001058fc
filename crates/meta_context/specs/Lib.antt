pub mod Entered
pub mod Tables
pub mod Plain
pub mod Stored
pub mod Limits
pub mod Declaring
pub mod Walks
