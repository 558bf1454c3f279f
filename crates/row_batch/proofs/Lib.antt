pub mod Places
pub mod Packed
pub mod Fields
pub mod Building
pub mod Fronts
