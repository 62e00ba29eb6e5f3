pub mod Tables
pub mod Cases
pub mod Laws
pub mod MarksAfter
pub mod Ends
