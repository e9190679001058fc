pub mod Parts
pub mod Steps
pub mod Counts
pub mod Lines
pub mod Tracks
pub mod Terms
pub mod Refused
