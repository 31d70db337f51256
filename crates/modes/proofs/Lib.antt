pub mod Left
mod Larger
pub mod Among
pub mod Bands
pub mod Determined
