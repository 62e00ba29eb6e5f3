pub mod Refute
