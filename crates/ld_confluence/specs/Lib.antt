pub mod Reducts
pub mod Agreement
pub mod Laws
