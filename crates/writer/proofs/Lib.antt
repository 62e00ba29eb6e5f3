pub mod Bytes
pub mod Atoms
pub mod Rules
pub mod Files
pub mod Trips
