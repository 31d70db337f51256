pub mod Laid
pub mod Seen
pub mod Followers
pub mod Walk
pub mod Adding
pub mod Lines
pub mod Amounts
pub mod Testing
