pub mod Told
pub mod SameNumbers
pub mod GapColumn
pub mod SameGraph
pub mod ShortBytes
pub mod SameValues
pub mod Determined
