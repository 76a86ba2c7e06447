use Rattle.std.proofs.Common.{ℕ, ◌<◌, ◌++◌, ◌∷◌, [], List, append_assoc, inl, inr, refl, sym, subst, ap, ap₂, ◌∙◌}
use Rattle.propagation.specs.Lists.{Has}
use Rattle.stamp_clock.proofs.RiseLemmas.{has-all}
use Rattle.pred_queue.proofs.KeysLemmas.{all-below}
use Rattle.pred_queue.proofs.clocks_ref.set_of.Goals as goal

pub loop-key-init : goal.loop-key-init
loop-key-init c =
    let all = c.into_iter-key-iterator.ensures.into_iter_gives in
    record {
      whole = ap₂ (λ (xs ys : List ℕ). xs ++ ys) c.new-set.ensures all;
      below = λ q has. has-all {A = ℕ} (λ key. key < 64) c.args.keys c.requires.below q (subst (λ (ks : List ℕ). Has ks q) all has);
    }

pub push-requires-clause-below : goal.push-requires-clause-below
push-requires-clause-below c = c.loop-key.invariant.below c.in-Some.key (subst (λ (ks : List ℕ). Has ks c.in-Some.key) (sym c.in-Some.ensures.steps) (inl refl))

pub push-requires-clause-above : goal.push-requires-clause-above
push-requires-clause-above c = all-below c.args.keys c.loop-key.set c.loop-key.key-iterator c.in-Some.key c.next.new.self c.requires.rise c.loop-key.invariant.whole c.in-Some.ensures.steps

pub loop-key-preserved : goal.loop-key-preserved
loop-key-preserved c = record {
  whole =
      ap (λ (ks : List ℕ). ks ++ c.next.new.self) c.push.ensures ∙ append_assoc c.loop-key.set (c.in-Some.key ∷ []) c.next.new.self
      ∙ ap (λ (ks : List ℕ). c.loop-key.set ++ ks) (sym c.in-Some.ensures.steps) ∙ c.loop-key.invariant.whole;
  below = λ q has. c.loop-key.invariant.below q (subst (λ (ks : List ℕ). Has ks q) (sym c.in-Some.ensures.steps) (inr has));
}
