pub mod ProperTasks
pub mod Releases
pub mod Sweeping
