pub mod Rows
pub mod FurtherRows
pub mod LoopRows
pub mod FormRows
pub mod CallRows
