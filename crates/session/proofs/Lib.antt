pub mod Walked
pub mod Performing
pub mod JudgeAfter
pub mod RefuteAfter
pub mod Agrees
pub mod Law
pub mod Made
