pub mod Writing
pub mod RoundTrip
pub mod Parts
