pub mod Showing
pub mod Refusals
