pub mod Graph
pub mod Sequence
pub mod Extreme
pub mod Demand
pub mod Cells
pub mod Fixed
pub mod Verdict
pub mod Computed
