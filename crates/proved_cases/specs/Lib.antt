pub mod Sheets
pub mod Cases
