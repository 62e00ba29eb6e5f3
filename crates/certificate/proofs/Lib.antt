pub mod Claims
pub mod Encoded
pub mod Never
pub mod Relation
pub mod Standing
pub mod Turns
pub mod Walked
