pub mod Term
pub mod Substitution
pub mod Scoping
pub mod Laws
