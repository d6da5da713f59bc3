pub mod AllEntries
pub mod RowByRow
