pub mod Bags
pub mod Order
pub mod Runs
pub mod Words
