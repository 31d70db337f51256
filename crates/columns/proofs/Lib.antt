pub mod Onward
pub mod Stretches
