use Rattle.std.proofs.Common.{◌≡◌, ◌<◌, ◌^◌, ◌++◌, ℕ, List, All, length, flat_map}
use Rattle.saved_state.specs.Bytes.{u16_bytes}
use Rattle.saved_state.proofs.ListLemmas.{IsReadTo}
use Rattle.saved_state.proofs.expressions.members_of.Given as goal

abbrev pub invariant-loop : goal.invariant-loop
invariant-loop l = (ids more : List ℕ) → length ids ≡ l.count → All (λ id. id < 2 ^ 16) ids → l.bytes ≡ flat_map u16_bytes ids ++ more → IsReadTo u16_bytes ids more l.counter l.ids l.rest
