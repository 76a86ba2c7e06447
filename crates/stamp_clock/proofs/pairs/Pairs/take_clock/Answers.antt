use Rattle.std.proofs.Common.{◌≡◌, ◌==◌, rules, not, true, sym, ◌∙◌}
use Rattle.std.proofs.lemmas.Bool.{eqb-false, not-true}
use Rattle.stamp_clock.proofs.JoinLemmas.{clock-before}
use Rattle.stamp_clock.proofs.pairs.Pairs.take_clock.Goals as goal

pub returns-then-ne-clause-clock : goal.returns-then-ne-clause-clock
returns-then-ne-clause-clock c =
    let other : not (c.in-Some.first == c.args.key) ≡ true = search rules in
    sym (clock-before c.args.key (c.in-Some.first, c.in-Some.clock) c.next.new.self c.args.self.now (sym c.self.view_is ∙ c.in-Some.ensures'.steps) c.requires
    (eqb-false c.in-Some.first c.args.key (not-true (c.in-Some.first == c.args.key) other)))
