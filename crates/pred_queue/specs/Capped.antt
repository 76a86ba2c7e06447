-- The number of a head, as far as 64 bits hold it.
use Rattle.std.specs.Prelude.{◌-◌, ◌^◌, min, Option}
use Rattle.std.proofs.Common.{Some, None}
use Rattle.service_machine.specs.States.{Head, Slot}

-- the head with its number, or the greatest of 64 bits where it is above that
abbrev pub capped_head : {V : Type 0} → Option (Head V) → Option (Head V)
capped_head None = None
capped_head (Some h) = Some (record h { number = min h.number (2 ^ 64 - 1) })

-- the slot with such a head
abbrev pub capped : {V : Type 0} → Slot V → Slot V
capped s = record s { head = capped_head s.head }
