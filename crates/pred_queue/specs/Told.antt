-- What a slot was told of the stamps to come.
use Rattle.std.specs.Prelude.{ℕ, List, [], ◌∷◌, Option, Vec, option_map, slice_set}
use Rattle.std.proofs.Common.{Some, None}
use Rattle.std.specs.declared.alloc.Global.{Global}
use Rattle.svc_value.specs.declared.numbers.Clock.{Clock}
use Rattle.propagation.specs.Stamps.{Stamps, with_clocks}
use Rattle.service_machine.specs.States.{known_stamps}

-- the epoch and the keys announced last, and the stamps last carried since then
pub record Told : Type 0 where
  pub epoch : ℕ
  pub keys : List ℕ
  pub carried : Option Stamps

-- a value names the clocks of some places
abbrev pub told_more : List (ℕ × ℕ) → Told → Stamps
told_more pairs told = with_clocks 0 pairs (known_stamps told.keys told.carried)

-- the clocks with these at their places, one after the other
abbrev pub rewritten : List (ℕ × ℕ) → List ℕ → List ℕ
rewritten [] clocks = clocks
rewritten (x ∷ rest) clocks = rewritten rest (slice_set clocks x.0 x.1)

-- the clocks in a list that may be there
abbrev pub items_in : Option (Vec Clock Global) → Option (List ℕ)
items_in clocks = option_map (λ list. list.items) clocks

-- the epoch and the keys of what was told, if anything was
abbrev pub keys_told : Option Told → Option (ℕ × List ℕ)
keys_told None = None
keys_told (Some told) = Some (told.epoch, told.keys)

-- the epoch
abbrev pub epoch_told : Option Told → Option ℕ
epoch_told None = None
epoch_told (Some told) = Some told.epoch

-- the stamps last carried, if any were
abbrev pub carried_told : Option Told → Option Stamps
carried_told None = None
carried_told (Some told) = told.carried
