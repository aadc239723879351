-- What stands between the code and the definitions: what its loops and tables hold, step by step. None of it has to be believed; proofs/
-- join it to the definitions of specs/.
pub mod WritableRange
pub mod WriteRuns
pub mod LastZero
pub mod FirstOf
pub mod Slots
pub mod RecordBounds
pub mod FieldsRead
pub mod Checked
pub mod Marks
pub mod FineRange
pub mod Actions
