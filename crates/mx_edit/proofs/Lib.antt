pub mod Keys
pub mod Results
pub mod TableSames
pub mod Tables
