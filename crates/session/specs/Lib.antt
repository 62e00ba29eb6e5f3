pub mod Run
pub mod Marked
pub mod Law
pub mod Made
pub mod Inside
