pub mod Readings
pub mod Standing
pub mod StoredRows
pub mod Taking
