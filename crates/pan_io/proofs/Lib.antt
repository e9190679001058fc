-- The lemmas of this crate. A loop over the lines cites HistoryLemmas.
pub mod Runs
pub mod KeptLemmas
pub mod CutLemmas
pub mod ReaderLemmas
pub mod TextLemmas
pub mod HistoryLemmas
pub mod Pieces
pub mod BookLemmas
pub mod WholeBooks
