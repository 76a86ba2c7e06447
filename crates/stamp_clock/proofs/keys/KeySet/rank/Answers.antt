use Rattle.std.proofs.Common.{◌≡◌, ℕ, ◌*◌, ◌-◌, ◌%◌, ◌^◌, ◌<◌, List, length, get_or, sym, subst, ◌∙◌, arith, count_ones, bit_and}
use Rattle.std.proofs.lemmas.Nat.{one_shl, pow_pos}
use Rattle.propagation.specs.Lists.{Has}
use Rattle.stamp_clock.specs.Places.{places}
use Rattle.stamp_clock.proofs.PlacesLemmas.{rank-at, has-word}
use Rattle.stamp_clock.proofs.keys.KeySet.rank.Goals as goal

pub overflow_shl-below : goal.overflow_shl-below
overflow_shl-below c =
    subst (λ (key : ℕ). key < 64) (sym c.id.view_is) (has-word c.self.inside.word c.args.id (subst (λ (keys : List ℕ). Has keys c.args.id) (sym c.self.view_is) c.requires)).0

pub overflow_sub-below : goal.overflow_sub-below
overflow_sub-below c =
    (let lt : c.id.inside.0 < 64 = subst (λ (key : ℕ). key < 64) (sym c.id.view_is) (has-word c.self.inside.word c.args.id (subst (λ (keys : List ℕ). Has keys c.args.id) (sym c.self.view_is) c.requires)).0 in
    omega (arith, one_shl c.id.inside.0 64 lt, pow_pos c.id.inside.0))

pub returns-clause-place : goal.returns-clause-place
returns-clause-place c =
    subst (λ (keys : List ℕ). get_or keys (count_ones (bit_and c.self.inside.word (1 * 2 ^ c.id.inside.0 % 2 ^ 64 - 1))) 0 ≡ c.args.id) c.self.view_is
    ((rank-at c.self.inside.word c.id.inside.0 (subst (λ (key : ℕ). Has (places c.self.inside.word) key) (sym c.id.view_is) (subst (λ (keys : List ℕ). Has keys c.args.id) (sym c.self.view_is) c.requires))).1 ∙ c.id.view_is)

pub returns-clause-within : goal.returns-clause-within
returns-clause-within c =
    subst (λ (keys : List ℕ). count_ones (bit_and c.self.inside.word (1 * 2 ^ c.id.inside.0 % 2 ^ 64 - 1)) < length keys) c.self.view_is
    (rank-at c.self.inside.word c.id.inside.0 (subst (λ (key : ℕ). Has (places c.self.inside.word) key) (sym c.id.view_is) (subst (λ (keys : List ℕ). Has keys c.args.id) (sym c.self.view_is) c.requires))).0
