-- What stands between the code and the definitions: what its loops and tables hold, step by step. None of it has to be believed; proofs/
-- join it to the definitions of specs/.
pub mod Objects
