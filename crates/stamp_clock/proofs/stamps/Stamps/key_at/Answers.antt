use Rattle.std.proofs.Common.{List, ℕ, ◌<◌, length, sym, ap, subst, ◌∙◌, slice_index}
use Rattle.propagation.specs.Stamps.{keys}
use Rattle.stamp_clock.proofs.BesideLemmas.{length-beside, keys-beside}
use Rattle.stamp_clock.proofs.stamps.Stamps.key_at.Goals as goal

pub at-requires : goal.at-requires
at-requires c =
    subst (λ n. c.args.i < n) (ap length (sym c.self.view_is) ∙ length-beside c.self.inside.keys c.self.inside.clocks.items c.self.invariant.lengths) c.requires

pub returns : goal.returns
returns c = c.at.ensures ∙ ap (λ (ks : List ℕ). slice_index ks c.args.i) (sym (keys-beside c.self.inside.keys c.self.inside.clocks.items c.self.invariant.lengths) ∙ ap keys c.self.view_is)
