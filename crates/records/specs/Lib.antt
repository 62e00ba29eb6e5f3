pub mod Words
pub mod Lengths
pub mod Kinds
pub mod Reading
