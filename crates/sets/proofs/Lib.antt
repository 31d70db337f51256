pub mod Bits
pub mod Counts
pub mod Zeros
pub mod Search
pub mod Folds
pub mod Clearing
pub mod Determined
