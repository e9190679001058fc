pub mod FuelLaw
pub mod Soundness
pub mod Calls
pub mod EntryTypes
pub mod ScopedAnswers
pub mod ScopedCalls
pub mod Applications
pub mod Signatures
