pub mod Broken
pub mod Support
pub mod Chains
pub mod Walk
