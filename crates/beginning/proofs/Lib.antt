pub mod Beginnings
pub mod GoingOn
pub mod Showing
