pub mod ContextNames
pub mod Lists
pub mod ReplyLines
pub mod Places
