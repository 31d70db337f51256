pub mod Values
pub mod Written
pub mod Reading
pub mod ShortForm
pub mod Judging
pub mod Lent
