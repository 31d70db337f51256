pub mod Joining
pub mod Columns
pub mod SheetCells
