-- The lemmas of this crate: what `clap` makes of the words of each form.
pub mod Looks
pub mod Rows
pub mod Turns
pub mod Walks
pub mod Ends
pub mod Commands
pub mod Places
pub mod Digits
