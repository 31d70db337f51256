pub mod Rules
pub mod Counting
