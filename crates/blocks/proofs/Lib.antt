pub mod Lanes
pub mod Walking
pub mod Raising
pub mod Leaving
