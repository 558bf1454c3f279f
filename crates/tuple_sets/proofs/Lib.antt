pub mod OrderLemmas
pub mod PartLemmas
pub mod SameLemmas
pub mod RunLemmas
pub mod BagLemmas
pub mod ViewLemmas
