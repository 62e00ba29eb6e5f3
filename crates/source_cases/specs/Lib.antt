pub mod Repeated
pub mod Lawful
