pub mod Readings
pub mod Standings
pub mod Steps
pub mod Tables
pub mod Begun
pub mod Added
pub mod Ran
pub mod Loaded
pub mod Contents
mod ContentExamples
pub mod Runs
pub mod Meanings
