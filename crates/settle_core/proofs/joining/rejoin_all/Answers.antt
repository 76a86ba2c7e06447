use Rattle.std.proofs.Common.{◌≡◌, ◌+◌, ◌/◌, ◌%◌, ◌<◌, subst, sym, arith, Vec, Global}
use Rattle.settle_core.specs.Inside.Joining.{GatheredBelow}
use Rattle.settle_core.specs.Inside.Marks.{Wires}
use Rattle.settle_core.specs.Net.{place_of}
use Rattle.settle_core.specs.declared.wired.WiredNode.{WiredNode}
use Rattle.settle_core.proofs.JoinLemmas.{gathered_next, gathered_skip}
use Rattle.settle_core.proofs.joining.rejoin_all.Goals as goal
use Rattle.settle_core.proofs.joining.rejoin_all.Goals.{then-p-len+in_ok-rejoin, else-p-len}

pub loop-place-preserved : goal.loop-place-preserved
loop-place-preserved c =
    let place = c.loop-place.place in
    let at : place_of (place / 64) (place % 64) ≡ place = omega arith in
    let less : place % 64 < 64 = omega arith in
    let old = c.args.all.now.items in
    let links = c.args.links.now.items in
    let was = c.loop-place.invariant in
    elim c.if-p-len.branch [
      | then-p-len+in_ok-rejoin w ↦
          subst (λ (v : Vec WiredNode Global). GatheredBelow (place + 1) old v.items links c.if-p-len.links.items) (sym w.all-is)
          (subst (λ (l : Wires). GatheredBelow (place + 1) old w.rejoin.new.all.items links l.items) (sym w.links-is)
          (gathered_next place (place / 64) (place % 64) old c.loop-place.all.items links c.loop-place.links.items was at less c.requires.few (omega (arith, w.if-p-len, c.len.ensures, was.count))
          w.rejoin.new.all.items w.rejoin.new.links.items w.in_ok-rejoin.ensures))
      | else-p-len w ↦
          subst (λ (v : Vec WiredNode Global). GatheredBelow (place + 1) old v.items links c.if-p-len.links.items) (sym w.all-is)
          (subst (λ (l : Wires). GatheredBelow (place + 1) old c.loop-place.all.items links l.items) (sym w.links-is)
          (gathered_skip place (place / 64) (place % 64) old c.loop-place.all.items links c.loop-place.links.items was at less (omega (arith, w.if-p-len, c.len.ensures, was.count))))
    ]
