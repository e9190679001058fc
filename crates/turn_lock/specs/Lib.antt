pub mod Journals
pub mod Meanings
pub mod Views
pub mod Steps
pub mod LockRule
pub mod Examples
