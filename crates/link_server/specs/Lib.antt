-- What the clauses of this crate cite. Served.antt says what serving links leaves.
pub mod Beside
pub mod Doors
pub mod Links
pub mod Seats
pub mod Served
