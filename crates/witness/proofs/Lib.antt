pub mod Searches
pub mod Leading
pub mod Witnesses
pub mod Steps
pub mod Writing
