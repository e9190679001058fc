pub mod Arguments
pub mod Turns
pub mod Spines
pub mod Comparisons
pub mod Instantiation
pub mod NodeLaws
pub mod EntryLaws
