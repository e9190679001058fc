pub mod Refusals
pub mod Elaboration
pub mod Laws
pub mod Order
pub mod Examples
