pub mod Rising
pub mod Releases
