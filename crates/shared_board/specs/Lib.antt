pub mod Boards
pub mod Cached
pub mod Calls
pub mod Closing
pub mod Laws
pub mod Opening
