-- What is kept of an item.
use Rattle.std.specs.Prelude.{ℕ, List, [], drop, Option, None, Some}
use Rattle.wire_frame.specs.Stream.{framed_item}
use Rattle.link_fifo.specs.declared.kept.Kept.{Kept}

-- the bytes that are left, of the item behind its length
abbrev pub left_of : Kept → List ℕ
left_of kept = drop kept.at (framed_item kept.item)

-- the same where nothing may be kept
abbrev pub bytes_kept : Option Kept → List ℕ
bytes_kept None = []
bytes_kept (Some kept) = left_of kept
