pub mod Asked
pub mod Added
