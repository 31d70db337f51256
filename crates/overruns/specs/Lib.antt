pub mod Releases
pub mod Sweeping
