pub mod Rows
pub mod Inputs
pub mod Stacks
pub mod Below
pub mod Cells
mod Runs
mod Numbered
mod Keyed
mod Agreeing
mod Added
mod Joined
mod SortedRows
pub mod Fitting
mod KeysNumbered
mod KeysParts
mod DistinctMore
mod GroupsNumbered
mod GroupsMore
mod GroupsMade
mod GroupsSorted
mod GroupsHeld
mod MakingLists
mod MakingRows
mod MakingTotals
mod MakingValues
mod MakingKinds
