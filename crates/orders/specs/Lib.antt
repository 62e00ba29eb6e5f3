pub mod Digits
pub mod Kinds
pub mod Laws
pub mod LittleEndian
pub mod Numbers
pub mod Routes
