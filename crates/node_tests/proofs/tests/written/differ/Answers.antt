use Rattle.std.proofs.Common.{ℕ, List, [], ◌∷◌, ◌<◌, length, arith}
use Rattle.propagation.specs.Lists.{AreDistinct}
use Rattle.node_tests.proofs.tests.written.differ.Goals as goal

-- less than two differ
apart_one : (ids : List ℕ) → length ids < 2 → AreDistinct ids
apart_one [] few = tt
apart_one (id ∷ []) few = ((λ h. h), tt)
apart_one (id ∷ other ∷ rest) few = absurd (omega (arith, few))

pub returns-in-len1 : goal.returns-in-len1
returns-in-len1 c = λ _. apart_one c.args.ids.now c.in-len1.len_below
