pub mod Cut
pub mod Legality
pub mod Unfolding
pub mod Laws
pub mod Examples
