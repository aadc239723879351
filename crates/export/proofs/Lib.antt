-- What the proofs of this crate rest on, and what is proved of its definitions.
mod Fitted
pub mod NumberLaws
