-- One number more.
pub mod NumberLemmas
