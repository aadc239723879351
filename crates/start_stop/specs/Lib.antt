pub mod StartStop
pub mod Steps
