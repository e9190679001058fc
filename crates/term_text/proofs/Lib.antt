pub mod Arguments
pub mod Entries
pub mod PrintedBack
pub mod ScopeLaws
pub mod Indices
pub mod ScopeNodes
