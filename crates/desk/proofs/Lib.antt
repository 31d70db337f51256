pub mod Determined
pub mod Agreement
pub mod Room
pub mod Telling
