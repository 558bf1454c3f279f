pub mod Tokens
pub mod Phrases
pub mod Texts
pub mod Kinds
pub mod Machine
pub mod Allowing
pub mod Scans
pub mod Words
