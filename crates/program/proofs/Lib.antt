pub mod Walks
pub mod Disjoint
pub mod Rules
pub mod Opened
pub mod Encoded
pub mod Relation
