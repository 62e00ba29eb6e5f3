pub mod Marks
pub mod Codes
pub mod Calls
