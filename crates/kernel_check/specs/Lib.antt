pub mod Inference
pub mod ScopedFaults
pub mod Laws
pub mod Answers
pub mod Steps
pub mod Examples
