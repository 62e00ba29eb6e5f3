pub mod Lawful
pub mod Outcome
pub mod Pair
pub mod Top
