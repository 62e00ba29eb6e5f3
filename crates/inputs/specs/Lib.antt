pub mod Layer
pub mod Lawful
