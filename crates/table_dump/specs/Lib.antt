pub mod Texts
pub mod Stops
pub mod Writers
pub mod Words
