pub mod Linked
pub mod Waiting
