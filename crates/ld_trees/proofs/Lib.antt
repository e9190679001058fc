pub mod Equality
pub mod SubstitutionLaws
pub mod Recursions
