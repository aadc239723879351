-- What the proofs of this crate rest on, for them and for the crates above.
pub mod SheetLaws
pub mod ObjectLaws
pub mod SheetCases
pub mod SheetLonger
