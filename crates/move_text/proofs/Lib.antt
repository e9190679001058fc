pub mod Sound
pub mod Complete
pub mod Refusals
pub mod Texts
