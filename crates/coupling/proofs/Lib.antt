pub mod Coupling
pub mod Looking
pub mod Marking
pub mod Declared
pub mod Reaching
pub mod Stored
