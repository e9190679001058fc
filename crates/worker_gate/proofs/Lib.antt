pub mod Cells
pub mod Covers
pub mod Deals
pub mod Accounts
pub mod Lists
pub mod Results
