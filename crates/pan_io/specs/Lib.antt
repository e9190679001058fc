-- What the clauses of this crate cite.
pub mod Faults
pub mod Ahead
pub mod Text
pub mod Kept
pub mod Waiting
pub mod Cut
pub mod Reader
pub mod Worked
pub mod History
pub mod Put
pub mod Books
pub mod Whole
pub mod Doors
