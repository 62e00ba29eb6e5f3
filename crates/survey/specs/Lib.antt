pub mod Levelling
pub mod Made
pub mod Making
