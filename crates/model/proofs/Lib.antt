-- The laws of specs/, for the crates above.
pub mod Example
pub mod Scope
pub mod Frame
pub mod Agree
pub mod Orders
pub mod Longer
pub mod OrderFree
pub mod Laid
pub mod Files
pub mod ExampleBound
pub mod OrderLaws
pub mod OrderSame
pub mod OrderStack
pub mod OrderUses
