pub mod Reasons
pub mod Calls
pub mod Agreement
pub mod Looking
