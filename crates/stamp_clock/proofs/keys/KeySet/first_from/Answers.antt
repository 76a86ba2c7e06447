use Rattle.std.proofs.Common.{sym, ap, ◌∙◌, arith, find, nat_le}
use Rattle.stamp_clock.proofs.PlacesLemmas.{first-from, none-from, none-above}
use Rattle.stamp_clock.proofs.keys.KeySet.first_from.Goals as goal

pub returns-then-start-ge64 : goal.returns-then-start-ge64
returns-then-start-ge64 c = sym (none-above c.self.inside.word c.args.start (omega arith)) ∙ ap (find (nat_le c.args.start)) c.self.view_is

pub returns-then-above-eq0 : goal.returns-then-above-eq0
returns-then-above-eq0 c = sym (none-from c.self.inside.word c.args.start (omega arith)) ∙ ap (find (nat_le c.args.start)) c.self.view_is

pub returns : goal.returns
returns c = sym (first-from c.self.inside.word c.args.start c.self.invariant (omega arith)) ∙ ap (find (nat_le c.args.start)) c.self.view_is
