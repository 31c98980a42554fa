pub mod RowData
