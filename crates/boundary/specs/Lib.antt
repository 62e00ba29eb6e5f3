pub mod Answers
pub mod Entries
pub mod Files
pub mod Outputs
pub mod Lendings
pub mod Lists
pub mod Copies
