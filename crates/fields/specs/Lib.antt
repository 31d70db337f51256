pub mod Refusals
pub mod Deciding
pub mod Limits
pub mod Fields
pub mod Reading
pub mod Values
