pub mod CutLemmas
pub mod FrontLemmas
pub mod NumberLemmas
pub mod QuotedLemmas
pub mod WordLemmas
