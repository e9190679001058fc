pub mod Answers
pub mod Faults
pub mod Standing
pub mod Steps
