-- The links themselves, in one table: for each reader a row of 64 links, one for each sender.
use Rattle.std.specs.Prelude.{◌≡◌, ℕ, ◌+◌, ◌≤◌, List, [], ◌∷◌, ◌++◌, map, length, slice_index_or, slice_set}
use Rattle.link_fifo.specs.Waiting.{Link}
use Rattle.settle_core.specs.Net.{place_of}

-- a link that is not there
abbrev pub no_link : Link
no_link = record { waiting = []; spare = 0 }

-- the link to a reader from a sender
abbrev pub link_in : List Link → ℕ → ℕ → Link
link_in table reader sender = slice_index_or table (place_of reader sender) no_link

-- the frames that wait in each link
abbrev pub waiting_in : List Link → List (List (List ℕ))
waiting_in table = map (λ link. link.waiting) table

-- the link of the reader and the sender has this frame more, and the others are as they were
pub record Pushed (reader sender : ℕ) (bytes : List ℕ) (old new : List Link) : Type 0 where
  pub link : Link
  pub table : new ≡ slice_set old (place_of reader sender) link
  pub waiting : link.waiting ≡ (link_in old reader sender).waiting ++ bytes ∷ []
  pub spare : (link_in old reader sender).spare ≤ link.spare + 1

-- the link of the reader and the sender has this frame less, which was its first, and the others are as they were
pub record Popped (reader sender : ℕ) (bytes : List ℕ) (old new : List Link) : Type 0 where
  pub link : Link
  pub table : new ≡ slice_set old (place_of reader sender) link
  pub waiting : (link_in old reader sender).waiting ≡ bytes ∷ link.waiting
  pub spare : link.spare ≡ (link_in old reader sender).spare + 1

-- the link of the reader and the sender has this frame more, before the others, and the others are as they were
pub record PutBack (reader sender : ℕ) (bytes : List ℕ) (old new : List Link) : Type 0 where
  pub link : Link
  pub table : new ≡ slice_set old (place_of reader sender) link
  pub waiting : link.waiting ≡ bytes ∷ (link_in old reader sender).waiting

-- the same frames wait, and no link has less room
pub record SameWaiting (old new : List Link) : Type 0 where
  pub count : length new ≡ length old
  pub waiting : waiting_in new ≡ waiting_in old
  pub room : (i : ℕ) → (slice_index_or old i no_link).spare ≤ (slice_index_or new i no_link).spare
