pub mod Answers
pub mod Faults
pub mod Walks
pub mod Pairs
pub mod Plans
pub mod Tries
