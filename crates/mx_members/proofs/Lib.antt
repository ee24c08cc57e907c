pub mod ChunkLemmas
pub mod MemberLemmas
