pub mod Determined
pub mod Outlines
