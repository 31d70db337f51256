pub mod Seen
pub mod Followers
pub mod Adding
pub mod Lines
pub mod Storing
pub mod Amounts
pub mod Testing
