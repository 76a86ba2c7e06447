-- For each reader a word, whose bits say from which senders frames wait.
use Rattle.std.specs.Prelude.{◌≡◌, ◌≢◌, ℕ, ◌+◌, ◌*◌, ◌/◌, ◌%◌, ◌<◌, List, [], ◌∷◌, length, slice_index_or, slice_set}
use Rattle.std.specs.Int.{bit_at}
use Rattle.link_fifo.specs.Waiting.{Link}
use Rattle.settle_core.specs.Inside.Table.{no_link}
use Rattle.svc_value.specs.declared.limits.TheConstants.{MAX_SERVICES}

-- the links, and for how many more, and for how many words more, there is room
pub record Wires : Type 0 where
  pub items : List Link
  pub link_room : ℕ
  pub word_room : ℕ

-- the bit of a link with these frames
abbrev pub mark_of : List (List ℕ) → ℕ
mark_of [] = 0
mark_of (frame ∷ frames) = 1

-- each link's bit but that at this place, in the word of its reader
pub record AreMarkedBut (place : ℕ) (links : List Link) (words : List ℕ) : Type 0 where
  pub count : length links ≡ length words * 64
  pub fit : (q : ℕ) → slice_index_or words q 0 < 18446744073709551616
  pub marks : (i : ℕ) → i < length links → i ≢ place → bit_at (slice_index_or words (i / 64) 0) (i % 64) ≡ mark_of (slice_index_or links i no_link).waiting

-- each link's bit
pub record AreMarked (links : List Link) (words : List ℕ) : Type 0 where
  pub count : length links ≡ length words * 64
  pub fit : (q : ℕ) → slice_index_or words q 0 < 18446744073709551616
  pub marks : (i : ℕ) → i < length links → bit_at (slice_index_or words (i / 64) 0) (i % 64) ≡ mark_of (slice_index_or links i no_link).waiting

-- the bit of the link at this place is such, and the others are as they were
pub record Marks (place bit : ℕ) (old new : List ℕ) : Type 0 where
  pub word : ℕ
  pub table : new ≡ slice_set old (place / 64) word
  pub fits : word < 18446744073709551616
  pub here : bit_at word (place % 64) ≡ bit
  pub others : (i : ℕ) → i < MAX_SERVICES → i ≢ place % 64 → bit_at word i ≡ bit_at (slice_index_or old (place / 64) 0) i

-- so many words more, without bits
pub record MoreWords (more : ℕ) (old new : List ℕ) : Type 0 where
  pub count_is : length new ≡ length old + more
  pub same : (q : ℕ) → slice_index_or new q 0 ≡ slice_index_or old q 0
