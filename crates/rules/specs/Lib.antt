pub mod Tests
pub mod Program
pub mod Questions
pub mod Parts
pub mod Stable
