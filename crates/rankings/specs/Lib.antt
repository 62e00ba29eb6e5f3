pub mod Rounds
pub mod Ranking
pub mod Laws
