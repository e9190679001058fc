pub mod Around
pub mod Cuts
pub mod Edits
pub mod Parts
pub mod Tables
