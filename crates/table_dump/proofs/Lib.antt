pub mod DumpExamples
pub mod Dumped
pub mod Puts
pub mod Rows
pub mod Printing
pub mod Walks
