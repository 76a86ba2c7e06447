pub mod RiseLemmas
pub mod PlacesLemmas
pub mod BesideLemmas
pub mod JoinLemmas
pub mod FloorLemmas
