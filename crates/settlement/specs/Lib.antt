pub mod Settle
pub mod Laws
