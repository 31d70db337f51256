pub mod AnyFrom
pub mod Deciding
pub mod Determined
