-- What the proofs of this crate rest on, for them and for the crates above.
pub mod ListLaws
pub mod RunLaws
pub mod LoopLaws
pub mod RowLaws
pub mod ListedIs
pub mod StartStopIs
