use Rattle.std.proofs.Common.{◌<◌, ℕ}
use Rattle.svc_graph.specs.History.{history_of}
use Rattle.settle_core.specs.Inside.Parting.{ArePaired, IsServed, MoreRings}
use Rattle.settle_core.proofs.parting.lay_rings.Given as goal

abbrev pub invariant-loop-number : goal.invariant-loop-number
invariant-loop-number l = MoreRings l.fn.all.items l.all.items × (ArePaired l.fn.all.items → (n : ℕ) → n < l.number → IsServed n (history_of l.book n) l.all.items)
