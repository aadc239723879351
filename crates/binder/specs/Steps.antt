-- What stands between the code and the definitions: what its loops and tables hold, step by step. None of it has to be believed; proofs/
-- join it to the definitions of specs/.
pub mod Table
pub mod OrderState
pub mod Prepared
pub mod ScopeModel
pub mod Relocating
pub mod RunSteps
pub mod Needed
pub mod Finished
pub mod AllNames
pub mod TypesBefore
pub mod OrderTaken
pub mod PlainVerdict
pub mod Crossing
