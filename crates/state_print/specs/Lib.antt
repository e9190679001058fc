pub mod Pieces
pub mod Needs
pub mod Bodies
pub mod Laws
pub mod Examples
