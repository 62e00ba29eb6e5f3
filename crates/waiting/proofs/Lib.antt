pub mod Chains
pub mod Counts
pub mod Linked
pub mod Taking
