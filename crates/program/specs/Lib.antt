pub mod Encoding
pub mod Reading
pub mod Index
pub mod Turns
pub mod Here
pub mod Head
pub mod Lawful
pub mod Relation
