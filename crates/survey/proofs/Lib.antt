pub mod Allowed
pub mod Lawful
pub mod Levelled
pub mod Made
pub mod Marked
