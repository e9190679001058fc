pub mod Parallel
pub mod Confluence
pub mod Generation
pub mod SubjectReduction
pub mod Heads
pub mod Reducts
pub mod Strengthening
