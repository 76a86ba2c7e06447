-- How many looks the keys of heads take.
use Rattle.std.specs.Prelude.{ℕ, List, length, sum_by, Option}
use Rattle.std.proofs.Common.{Some, None}
use Rattle.service_machine.specs.States.{Head, Slot}
use Rattle.service_machine.specs.Turning.{heads}
use Rattle.stamp_match.specs.Kept.{slot_in}
use Rattle.stamp_match.specs.declared.choices.Choice.{Choice}
use Rattle.stamp_match.specs.declared.choices.Choice.TheVariants.{Lags}

-- the number of keys of all heads
abbrev pub head_keys : {V : Type 0} → List (Slot V) → ℕ
head_keys slots = sum_by (λ head. length head.stamps) (heads slots)

-- the number of keys of a head
abbrev pub keys_in : {V : Type 0} → Option (Head V) → ℕ
keys_in None = 0
keys_in (Some head) = length head.emission.stamps

-- the number of keys of the head that a choice names a key of
abbrev pub named_keys : {V : Type 0} → List (Slot V) → Choice → ℕ
named_keys slots (Lags place key) = keys_in (slot_in slots place).head
named_keys slots other = 0
