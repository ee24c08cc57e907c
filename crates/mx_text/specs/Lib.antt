pub mod Edit
pub mod Evaluation
pub mod Parsing
pub mod Table
pub mod File
pub mod Reads
pub mod Form
pub mod Blocks
