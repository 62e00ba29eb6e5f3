pub mod Taking
pub mod TakenRounds
pub mod Progress
