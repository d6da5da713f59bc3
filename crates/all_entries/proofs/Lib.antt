pub mod Rows
pub mod RowByRow
