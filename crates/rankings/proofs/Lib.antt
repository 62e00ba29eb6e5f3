pub mod Greatest
pub mod Supported
pub mod Rounds
pub mod Numbers
pub mod Needed
pub mod Rankings
pub mod Strong
pub mod Stable
