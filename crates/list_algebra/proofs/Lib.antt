pub mod Same
pub mod Counted
pub mod Carried
pub mod Clustered
pub mod Instances
pub mod Comparing
pub mod Sorted
pub mod Rearranged
pub mod Trees
mod TreeExamples
