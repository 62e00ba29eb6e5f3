pub mod Tables
pub mod Numbers
pub mod Waits
pub mod Progress
pub mod Asking
pub mod Beginning
pub mod Closing
pub mod Rounds
