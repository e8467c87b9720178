pub mod RowReading
