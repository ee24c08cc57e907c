pub mod Stacks
pub mod Taken
pub mod Computed
pub mod Collecting
pub mod Walking
