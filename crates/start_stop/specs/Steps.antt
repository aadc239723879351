-- What stands between the code and the definitions. None of it has to be believed; proofs/ join it to specs/StartStop.
pub mod Rows
pub mod Bound
pub mod Listed
