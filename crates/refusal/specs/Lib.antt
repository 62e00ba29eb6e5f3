pub mod Numbers
pub mod Refused
pub mod Tables
pub mod Results
