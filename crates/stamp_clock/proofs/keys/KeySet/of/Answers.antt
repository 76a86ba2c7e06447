use Rattle.std.proofs.Common.{ℕ, ◌<◌, List, sym, subst}
use Rattle.propagation.specs.Lists.{Has}
use Rattle.stamp_clock.proofs.RiseLemmas.{rise-before, all-has}
use Rattle.stamp_clock.proofs.keys.KeySet.of.Goals as goal

pub push-requires-clause-above : goal.push-requires-clause-above
push-requires-clause-above c =
    all-has {A = ℕ} (λ before. before < c.key-item.result) c.loop-key.set
    (λ q h. subst (λ (key : ℕ). q < key) (sym c.key-item.is)
    (rise-before 0 c.args.keys.now c.loop-key.key-index c.key-item.result q c.requires.rise c.loop-key-test.true (subst (λ (keys : List ℕ). Has keys q) c.loop-key.invariant h)))
