pub mod Member
pub mod Members
pub mod Shown
pub mod Refusals
pub mod Showable
pub mod Context
pub mod Laws
pub mod Examples
