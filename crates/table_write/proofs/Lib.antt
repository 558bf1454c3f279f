pub mod Cuts
pub mod Rows
pub mod Fronts
pub mod Adding
pub mod BlockRows
pub mod RowGrowth
pub mod Stopped
