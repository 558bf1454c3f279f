pub mod Rows
pub mod Places
pub mod Calls
pub mod Blocks
pub mod Words
