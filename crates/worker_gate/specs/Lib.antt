pub mod Accounts
pub mod Results
pub mod Rows
