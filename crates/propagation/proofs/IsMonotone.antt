-- Emissions go forth: a computation is on no key below an emission before it, by its rule, and the others of the log by those before.
use Rattle.std.proofs.Common.{List, [], ◌∷◌, Option, Some, None, ℕ}
use Rattle.propagation.specs.Lists.{as_list}
use Rattle.propagation.specs.Logs.{Emission, Entry, Leg, emissions}
use Rattle.propagation.specs.Logs.Entry.{Did, Took, Computed, Sent}
use Rattle.propagation.specs.Rules.{Follows, IsMonotone}
use Rattle.propagation.specs.Laws.{EmissionsGoForth}

pub follows-forth : {V D : Type 0} (g : Leg V D) (n : ℕ) (log : List (Entry V)) → Follows g n log → IsMonotone (emissions g n log)
follows-forth {V} g n [] rules = go (g.opened n)
  where
    go : (o : Option (Emission V)) → IsMonotone (as_list o)
    go None = tt
    go (Some m) = (λ x h. absurd h, tt)
follows-forth g n (Did c ∷ before) rules = follows-forth g n before rules.1
follows-forth g n (Took p f ∷ before) rules = follows-forth g n before rules
follows-forth g n (Computed v S picks ∷ before) rules = (λ x h. rules.0.monotone x h, follows-forth g n before rules.1)
follows-forth g n (Sent q f ∷ before) rules = follows-forth g n before rules

pub emissions_go_forth : (V D : Type 0) → EmissionsGoForth V D
emissions_go_forth V D = follows-forth
