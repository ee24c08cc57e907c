pub mod Combining
pub mod Separating
pub mod HeadRules
pub mod PhraseRules
pub mod PhraseCode
pub mod PartAnswers
pub mod OnePart
pub mod LineEnd
