pub mod Choice
pub mod Memory
pub mod Words
pub mod Names
pub mod Hash
pub mod Page
pub mod Refusal
pub mod CopyVec
