pub mod File
pub mod Stored
pub mod Lawful
