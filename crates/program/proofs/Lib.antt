-- What the proofs of this crate rest on, and what is proved of its definitions.
pub mod PrintLaws
mod AnswerLaws
pub mod AllPrintedLaw
