use Rattle.std.proofs.Common.{List, ℕ, ◌<◌, length, sym, ap, subst, ◌∙◌, slice_index}
use Rattle.std.proofs.lemmas.Grind.{get_or_default_zero}
use Rattle.stamp_clock.specs.Beside.{clocks}
use Rattle.stamp_clock.proofs.BesideLemmas.{length-beside, clocks-beside}
use Rattle.stamp_clock.proofs.stamps.Stamps.clock_at.Goals as goal

pub index-requires : goal.index-requires
index-requires c =
    subst (λ n. c.args.i < n) (ap length (sym c.self.view_is) ∙ length-beside c.self.inside.keys c.self.inside.clocks.items c.self.invariant.lengths ∙ c.self.invariant.lengths ∙ sym c.self.inside.clocks.ok.0) c.requires

pub returns : goal.returns
returns c =
    c.index.ensures ∙ get_or_default_zero c.self.inside.clocks.items c.args.i c.index.result.now
    (subst (λ n. c.args.i < n) (ap length (sym c.self.view_is) ∙ length-beside c.self.inside.keys c.self.inside.clocks.items c.self.invariant.lengths ∙ c.self.invariant.lengths) c.requires)
    ∙ ap (λ (cs : List ℕ). slice_index cs c.args.i) (sym (clocks-beside c.self.inside.keys c.self.inside.clocks.items c.self.invariant.lengths) ∙ ap clocks c.self.view_is)
