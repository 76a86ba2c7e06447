use Rattle.std.proofs.Common.{◌≡◌, ◌++◌, ◌∷◌, take, flat_map}
use Rattle.std.specs.Fmt.{decimal}
use Rattle.trace_text.proofs.printing.computations.append_other_picks.Given as goal

abbrev pub invariant-loop-pick : goal.invariant-loop-pick
invariant-loop-pick l = l.out.items ≡ l.fn.out.items ++ flat_map (λ pick. 44 ∷ decimal pick) (take l.pick-index l.picks)
