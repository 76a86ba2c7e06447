-- Services that a roster has are below its length.
use Rattle.std.proofs.Common.{◌≡◌, ℕ, ◌<◌, ◌≤◌, ◌==◌, Bool, true, false, cond, List, [], ◌∷◌, length, Option, Some, None, refl, arith, eqb-true}
use Rattle.std.specs.Prelude.{All, slice_get}
use Rattle.std.proofs.lemmas.Option.{slice_get_within}
use Rattle.std.proofs.lemmas.List.Elements.{All-nil, All-cons}
use Rattle.service_machine.specs.Refusing.{is_below, bad_key}
use Rattle.svc_graph.specs.declared.kind.Kind.{Kind}
use Rattle.node_core.specs.Ranks.{rank_of, rank_in}

-- a service below another one is known
known_below : (kinds : List Kind) (q : ℕ) (above : Option ℕ) → is_below (rank_in kinds q) above ≡ true → q < length kinds
known_below kinds q above is = go (slice_get kinds q) refl is
  where
    go : (o : Option Kind) → slice_get kinds q ≡ o → is_below (rank_of o) above ≡ true → q < length kinds
    go None e h = absurd (cc h)
    go (Some kind) e h = slice_get_within kinds q kind e

-- keys without a bad one, of a known sender, are known
pub keys_known : (kinds : List Kind) (p : ℕ) (above : Option ℕ) (keys : List ℕ) → length kinds ≤ 64 → is_below (rank_in kinds p) above ≡ true → bad_key (rank_in kinds) p keys ≡ None → All (λ key. key < 64) keys
keys_known kinds p above [] few lower ranks = All-nil (λ key. key < 64)
keys_known kinds p above (q ∷ keys) few lower ranks = go (q == p) refl (is_below (rank_in kinds q) (rank_in kinds p)) refl ranks (λ h. keys_known kinds p above keys few lower h)
  where
    go : (b : Bool) → (q == p) ≡ b → (t : Bool) → is_below (rank_in kinds q) (rank_in kinds p) ≡ t →
        cond b (bad_key (rank_in kinds) p keys) (cond t (bad_key (rank_in kinds) p keys) (Some q)) ≡ None → (bad_key (rank_in kinds) p keys ≡ None → All (λ key. key < 64) keys) → All (λ key. key < 64) (q ∷ keys)
    go true e t f none rec =
        let same : q ≡ p = eqb-true q p e in
        let known = known_below kinds p above lower in
        All-cons (λ key. key < 64) q keys (omega (arith, same, known, few)) (rec none)
    go false e true f none rec =
        let known = known_below kinds q (rank_in kinds p) f in
        All-cons (λ key. key < 64) q keys (omega (arith, known, few)) (rec none)
    go false e false f none rec = absurd (cc none)
