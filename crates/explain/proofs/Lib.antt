pub mod Causes
pub mod SmallestMargins
pub mod TaskDemands
pub mod Narrowing
pub mod Telling
pub mod Determined
pub mod Agreement
pub mod Room
