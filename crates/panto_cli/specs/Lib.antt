-- What the clauses of this crate cite. Run.antt says what a run leaves.
pub mod Status
pub mod Books
pub mod Outcomes
pub mod Notes
pub mod Demo
pub mod Run
pub mod Ends
pub mod Links
pub mod Serve
pub mod Serving
