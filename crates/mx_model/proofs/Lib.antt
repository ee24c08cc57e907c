pub mod AddressLemmas
mod Changes
pub mod Defined
pub mod Filtered
mod Fronts
pub mod KindLemmas
pub mod LayerSteps
pub mod LookupLemmas
pub mod MemberLemmas
pub mod NameLemmas
pub mod Places
mod SmallModels
pub mod SoundLemmas
pub mod SpaceLemmas
mod TableLemmas
mod Totals
