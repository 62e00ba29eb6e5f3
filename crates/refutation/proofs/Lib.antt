pub mod Unstable
