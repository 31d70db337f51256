pub mod Behind
pub mod BehindHead
pub mod Standing
pub mod UnbrokenColumns
pub mod Whole
