pub mod Equality
pub mod Continuing
pub mod Resuming
pub mod Answers
pub mod Laws
pub mod Examples
