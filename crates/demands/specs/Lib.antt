-- Whole demands, over what the calls of binder answer.
pub mod LongerSet
pub mod OrderReport
pub mod Cases
pub mod FieldCases
pub mod RefusalCases
pub mod TypeCases
pub mod CopyCases
pub mod StartStopCases
pub mod Refusals
pub mod AllNames
pub mod LargePages
pub mod CopiesApart
pub mod PairOfSheets
pub mod ObjectRuns
pub mod WalksEnd
pub mod OwnOrders
pub mod StartStopCall
