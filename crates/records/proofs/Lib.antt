pub mod Words
pub mod Encoded
