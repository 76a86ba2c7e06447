use Rattle.std.proofs.Common.{◌≡◌, ◌<◌, ℕ, List, length, subst, arith, ◌∙◌}
use Rattle.propagation.specs.Lists.{Has}
use Rattle.svc_graph.specs.History.{history_of}
use Rattle.settle_core.specs.Inside.Parting.{IsServed, LaysAll}
use Rattle.settle_core.proofs.PartLemmas.{ids_within, read_here, served_here, served_more, served_stays, wires_trans}
use Rattle.settle_core.proofs.parting.lay_rings.Goals as goal

pub lay_all-requires-clause-others : goal.lay_all-requires-clause-others
lay_all-requires-clause-others c = λ q has.
    let rows = c.args.book.now in
    let wires = c.loop-number.invariant.0 in
    let count : length c.loop-number.all.items ≡ length rows = wires.count ∙ c.requires.count in
    let less : c.loop-number.number < length rows = omega (arith, c.loop-number-test.true, count, c.requires.count, c.len-number-end.ensures) in
    let read = read_here (length rows) c.loop-number.all.items c.loop-number.number c.index.result.now (omega (arith, less, count)) c.index.ensures c.history.result.now (history_of rows c.loop-number.number) c.in_ok-ids.ids.items c.history.ensures.history (c.in_ok-ids.ensures (length rows)) in
    let within : q < length rows = ids_within rows c.args.all.now.items c.requires.within c.loop-number.all.items wires c.loop-number.number less c.in_ok-ids.ids.items read q (subst (λ (xs : List ℕ). Has xs q) c.as_slice.ensures.value has) in
    omega (arith, within, count)

pub loop-number-preserved : goal.loop-number-preserved
loop-number-preserved c =
    let rows = c.args.book.now in
    let first = c.args.all.now.items in
    let mid = c.loop-number.all.items in
    let new = c.lay_all.new.all.items in
    let k = c.loop-number.number in
    let wires = c.loop-number.invariant.0 in
    let count : length mid ≡ length rows = wires.count ∙ c.requires.count in
    let less : k < length rows = omega (arith, c.loop-number-test.true, count, c.requires.count, c.len-number-end.ensures) in
    let read = read_here (length rows) mid k c.index.result.now (omega (arith, less, count)) c.index.ensures c.history.result.now (history_of rows k) c.in_ok-ids.ids.items c.history.ensures.history (c.in_ok-ids.ensures (length rows)) in
    let lays : LaysAll k c.in_ok-ids.ids.items mid new = subst (λ (xs : List ℕ). LaysAll k xs mid new) c.as_slice.ensures.value c.in_ok-lay_all.ensures in (
      wires_trans first mid new wires lays.wires,
      λ paired. served_more k (λ n. IsServed n (history_of rows n) new) (λ n lt. served_stays n (history_of rows n) mid new lays.wires (c.loop-number.invariant.1 paired n lt))
          (served_here rows first c.requires.within mid wires k less c.in_ok-ids.ids.items read new (wires.paired paired) lays),
    )
