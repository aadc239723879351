pub mod Sheet
pub mod Steps
