pub mod Blocks
pub mod Search
pub mod Grown
pub mod Top
pub mod Table
pub mod Examples
