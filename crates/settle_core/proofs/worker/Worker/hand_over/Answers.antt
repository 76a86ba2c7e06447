use Rattle.std.proofs.Common.{◌≡◌, ◌<◌, List, ℕ, length, take, slice_index_or, subst, sym, ap, arith, ◌∙◌}
use Rattle.std.proofs.lemmas.List.{take_all}
use Rattle.propagation.specs.Lists.{Has}
use Rattle.settle_core.specs.Inside.Handing.{IsHandedTo}
use Rattle.settle_core.proofs.GoingLemmas.{goes_on_trans}
use Rattle.settle_core.proofs.OverLemmas.{handed_more, handed_all}
use Rattle.settle_core.proofs.TableLemmas.{take_next}
use Rattle.settle_core.proofs.worker.Worker.hand_over.Goals as goal

pub peer_at-peer-requires : goal.peer_at-peer-requires
peer_at-peer-requires c =
    let same : length c.loop-place.self.peers.items ≡ length c.args.self.now.peers.items = ap (λ (ps : List ℕ). length ps) c.loop-place.invariant.2 in
    omega (arith, same, c.loop-place-test.true, c.len-place-end.ensures)

pub loop-place-preserved : goal.loop-place-preserved
loop-place-preserved c =
    let was = c.loop-place.invariant in
    let ps = c.args.self.now.peers.items in
    let P : List ℕ → Type 0 = λ xs. (q : ℕ) → Has xs q → IsHandedTo q c.hand_over_to.new.self in
    let less : c.loop-place.place < length ps = omega (arith, c.loop-place-test.true, c.len-place-end.ensures) in (
      goes_on_trans c.args.self.now c.loop-place.self c.hand_over_to.new.self was.0 c.hand_over_to.ensures.goes_on,
      c.hand_over_to.ensures.state ∙ was.1,
      c.hand_over_to.ensures.peers ∙ was.2,
      subst P (take_next ps c.loop-place.place c.peer_at-peer.result less (c.peer_at-peer.ensures.at ∙ ap (λ (xs : List ℕ). slice_index_or xs c.loop-place.place c.peer_at-peer.result) was.2))
          (handed_more c.loop-place.self c.hand_over_to.new.self (take c.loop-place.place ps) c.peer_at-peer.result was.3 c.hand_over_to.ensures.others c.hand_over_to.ensures.handed),
    )

pub returns-clause-handed : goal.returns-clause-handed
returns-clause-handed c =
    let was = c.loop-place.invariant in
    let ps = c.args.self.now.peers.items in
    handed_all c.loop-place.self (take c.loop-place.place ps) (take_all c.loop-place.place ps (omega (arith, c.loop-place-test.false, c.len-place-end.ensures)) ∙ sym was.2) was.3
