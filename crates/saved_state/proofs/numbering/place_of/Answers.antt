use Rattle.std.proofs.Common.{◌∙◌, arith, sym, true≢false}
use Rattle.std.proofs.lemmas.Slice.Eq.{bytes_eq-Decides}
use Rattle.saved_state.proofs.NamingLemmas.{index_here, index_next}
use Rattle.saved_state.proofs.numbering.place_of.Goals as goal

pub returns-then-eq : goal.returns-then-eq
returns-then-eq c =
    let same = sym c.as_slice.ensures ∙ (bytes_eq-Decides c.as_slice.result.now c.args.name.now).0 (sym c.if-eq.ensures) in
    let here = index_here c.args.rows.now c.loop-place.place c.index-rows-place.result c.args.name.now c.loop-place-test.true c.index-rows-place.is same in
    omega (arith, here, c.loop-place.invariant)

pub loop-place-preserved : goal.loop-place-preserved
loop-place-preserved c =
    let next = index_next c.args.rows.now c.loop-place.place c.index-rows-place.result c.args.name.now c.loop-place-test.true c.index-rows-place.is
    (λ same. true≢false (sym ((bytes_eq-Decides c.as_slice.result.now c.args.name.now).1 (c.as_slice.ensures ∙ same)) ∙ sym c.if-eq.ensures)) in
    omega (arith, next, c.loop-place.invariant)
