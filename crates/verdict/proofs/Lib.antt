pub mod Grounded
pub mod Steps
pub mod Accepted
