use Rattle.std.proofs.Common.{◌≡◌, get_or, arith, ap, ◌∙◌, is_some, sym}
use Rattle.std.proofs.lemmas.Option.{same_Some}
use Rattle.stamp_clock.proofs.RiseLemmas.{next-drop}
use Rattle.stamp_clock.proofs.keys.KeySet.at.Goals as goal

pub loop-preserved : goal.loop-preserved
loop-preserved c = (next-drop c.args.self c.loop.left c.next.new.self c.next.result c.loop.counter (omega arith) c.loop.invariant c.next.ensures.steps).1

pub unwrap-requires : goal.unwrap-requires
unwrap-requires c = ap is_some (next-drop c.args.self c.loop.left c.next-2.new.self c.next-2.result c.loop.counter (omega arith) c.loop.invariant c.next-2.ensures.steps).0

pub returns : goal.returns
returns c =
    same_Some c.unwrap.result (get_or c.args.self c.loop.counter 0)
    (sym c.unwrap.ensures ∙ (next-drop c.args.self c.loop.left c.next-2.new.self c.next-2.result c.loop.counter (omega arith) c.loop.invariant c.next-2.ensures.steps).0)
    ∙ ap (λ i. get_or c.args.self i 0) (let same : c.loop.counter ≡ c.args.i = omega arith in same)
