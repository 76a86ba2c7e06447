use Rattle.std.proofs.Common.{ℕ, List, ◌/◌, ◌^◌, ◌<◌, ◌↔◌, sym, subst, arith, IsTrue, nat_eq, bit_and}
use Rattle.std.proofs.lemmas.Bool.{ltb-true}
use Rattle.propagation.specs.Lists.{Has}
use Rattle.stamp_clock.specs.Places.{places}
use Rattle.stamp_clock.proofs.PlacesLemmas.{bit-tested, has-word}
use Rattle.stamp_clock.proofs.keys.KeySet.contains.Goals as goal

pub returns-then-id-lt64 : goal.returns-then-id-lt64
returns-then-id-lt64 c =
    subst (λ (key : ℕ). IsTrue (nat_eq (bit_and (c.self.inside.word / 2 ^ c.id.inside.0) 1) 1) ↔ Has c.args.self key) c.id.view_is
    (subst (λ (keys : List ℕ). IsTrue (nat_eq (bit_and (c.self.inside.word / 2 ^ c.id.inside.0) 1) 1) ↔ Has keys c.id.inside.0) c.self.view_is (bit-tested c.self.inside.word c.id.inside.0 c.self.invariant))

pub returns-else-id-lt64 : goal.returns-else-id-lt64
returns-else-id-lt64 c = (
  (λ t. absurd (let lt : c.id.inside.0 < 64 = ltb-true c.id.inside.0 64 t in omega arith)),
  (λ h. absurd
      (let there : Has (places c.self.inside.word) c.id.inside.0 = subst (λ (key : ℕ). Has (places c.self.inside.word) key) (sym c.id.view_is) (subst (λ (keys : List ℕ). Has keys c.args.id) (sym c.self.view_is) h) in
      let lt : c.id.inside.0 < 64 = (has-word c.self.inside.word c.id.inside.0 there).0 in omega arith)),
)
