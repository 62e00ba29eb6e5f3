pub mod Order
pub mod Stored
pub mod Table
