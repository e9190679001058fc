mod JsonLemmas
mod EachLemmas
mod ListLemmas
pub mod PartLemmas
pub mod OneLineLemmas
