pub mod Turns
pub mod Needs
pub mod Shown
pub mod Lines
pub mod States
pub mod Theorem
