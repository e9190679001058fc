pub mod Blocks
pub mod Top
pub mod Examples
