pub mod Rows
pub mod Distinct
pub mod Exact
pub mod Hash
