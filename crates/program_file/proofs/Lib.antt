pub mod Starts
pub mod Questions
