pub mod Answer
pub mod Content
pub mod Values
pub mod Judging
pub mod Meaning
pub mod Proper
pub mod Ready
pub mod Outline
