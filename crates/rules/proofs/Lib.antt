pub mod Parts
pub mod Ranges
pub mod Reduct
pub mod Tests
