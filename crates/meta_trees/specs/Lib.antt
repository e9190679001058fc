pub mod MetaContext
pub mod Dependencies
pub mod Whole
pub mod Laws
pub mod Examples
