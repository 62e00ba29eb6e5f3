pub mod Claims
pub mod Encoding
pub mod Reading
pub mod Relation
pub mod Standing
