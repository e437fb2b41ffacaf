pub mod ClearLemmas
pub mod FileLemmas
pub mod HeadLemmas
pub mod StoreLemmas
pub mod Transactions
