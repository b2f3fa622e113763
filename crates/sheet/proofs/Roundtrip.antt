pub mod RoundTrip
pub mod Promises
