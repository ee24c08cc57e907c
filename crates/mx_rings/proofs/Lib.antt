pub mod LinkLemmas
pub mod RingLemmas
pub mod SearchLemmas
pub mod Steps
