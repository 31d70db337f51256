pub mod Answering
pub mod Counting
pub mod Determined
pub mod RoundTrip
pub mod Room
