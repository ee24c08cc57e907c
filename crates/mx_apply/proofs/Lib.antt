pub mod ChainLemmas
pub mod DisplayLemmas
pub mod LengthLemmas
pub mod NeedLemmas
pub mod ReferenceLemmas
pub mod StaticLemmas
pub mod ValueLemmas
