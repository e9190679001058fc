-- What the clauses of this crate cite.
pub mod Given
pub mod Form
pub mod Range
pub mod Seen
pub mod Parsed
pub mod Usage
pub mod Worked
