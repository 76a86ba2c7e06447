mod Accepted
mod AllowedItems
mod ByArchiveCommand
mod ByCommand
mod ByItems
mod DefaultRows
mod FlagWords
mod ItemWords
mod KeptFound
mod KeptRows
pub mod KeptSizes
mod KeptWalk
mod LegLemmas
mod PlainWords
mod RowLemmas
pub mod Sizes
mod TracedWords
