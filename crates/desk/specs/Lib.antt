pub mod Answers
pub mod Calls
pub mod Agreement
pub mod Found
pub mod WhichTable
