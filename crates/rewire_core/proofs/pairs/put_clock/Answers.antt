use Rattle.std.proofs.Common.{◌∙◌, sym, arith}
use Rattle.rewire_core.proofs.PairLemmas.{replaced, appended}
use Rattle.rewire_core.proofs.pairs.put_clock.Goals as goal

pub returns-then-eq : goal.returns-then-eq
returns-then-eq c = replaced c.args.id c.args.clock _ c.loop-i.i c.index.result.now (omega arith) c.index.ensures (sym c.eq.ensures ∙ c.if-eq.true) ∙ c.loop-i.invariant

pub returns : goal.returns
returns c = c.push_reserved.ensures.items ∙ appended c.args.id c.args.clock _ c.loop-i.i (omega arith) ∙ c.loop-i.invariant
