-- The laws of specs/, for this crate's proofs and for those of the crates above it.
pub mod Choice
pub mod Memory
pub mod Slices
pub mod Words
pub mod NameLaws
pub mod Page
