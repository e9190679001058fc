pub mod Coupling
pub mod Laws
pub mod Looks
pub mod Marks
pub mod Examples
