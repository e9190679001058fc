pub mod Runs
pub mod WeakHead
pub mod Conversion
pub mod Globals
pub mod Answers
pub mod Spines
pub mod Laws
pub mod Examples
