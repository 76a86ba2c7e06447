use Rattle.std.proofs.Common.{◌≡◌, ◌≤◌, ◌+◌, ◌++◌, ℕ, List, length, refl, sym, ap, subst, ◌∙◌, arith, inl, inr, suc}
use Rattle.propagation.specs.Lists.{AreDistinct, Has}
use Rattle.propagation.proofs.Lists.{Has-append_cases}
use Rattle.service_machine.specs.Steps.{targets, after_changing, done_log}
use Rattle.svc_graph.specs.History.{at_clock, dependencies}
use Rattle.node_core.specs.Outbox.{waiting}
use Rattle.node_core.specs.View.{Grows}
use Rattle.node_core.proofs.LegLemmas.{changes_stay}
use Rattle.settle_core.specs.Net.{place_of}
use Rattle.settle_core.specs.Inside.Table.{link_in}
use Rattle.settle_core.proofs.BoundLemmas.{next_names, next_apart, next_has, done_bounded}
use Rattle.settle_core.proofs.NodeLemmas.{room_for, outbox_more, node_acts}
use Rattle.settle_core.proofs.TableLemmas.{same_trans}
use Rattle.settle_core.proofs.acting.do_next.Goals as goal

pub hand_over-requires-clause-room : goal.hand_over-requires-clause-room
hand_over-requires-clause-room c = λ q.
    let grows : Grows c.args.node.now c.do_next.new.self (done_log dependencies c.args.node.now.state) = c.in_ok-is_done.ensures.log in
    let P : List (ℕ × List ℕ) → Type 0 = λ outgoing_frames. length (waiting q outgoing_frames) ≤ (link_in c.reserve_named.new.links.items q c.args.id).spare in
    let apart : AreDistinct (next_names dependencies c.args.node.now.state.left) = next_apart dependencies c.args.node.now.state.left c.requires.next_apart in
    subst P (sym (outbox_more c.args.node.now c.do_next.new.self (done_log dependencies c.args.node.now.state) grows c.requires.ready.handed))
    (room_for grows.more (done_log dependencies c.args.node.now.state) grows.says (targets c.args.node.now.state.edges ++ next_names dependencies c.args.node.now.state.left) c.args.id c.reserve_named.new.links.items
    (done_bounded dependencies c.args.node.now.state c.requires.apart c.args.node.now.state.left refl apart)
    (λ r has. elim (Has-append_cases (targets c.args.node.now.state.edges) (next_names dependencies c.args.node.now.state.left) r has) [
      | inl h ↦ (let Q : List (ℕ × ℕ) → Type 0 = λ es. Has (targets es) r in
          let one : 2 ≤ (link_in c.reserve_all.new.links.items r c.args.id).spare = c.in_ok-reserve_all.ensures.room r (subst Q (sym c.edges.ensures) h) in
          let two : (link_in c.reserve_all.new.links.items r c.args.id).spare ≤ (link_in c.reserve_named.new.links.items r c.args.id).spare = c.in_ok-reserve_named.ensures.same.room (place_of r c.args.id) in omega arith)
      | inr h ↦ (let w = next_has dependencies c.args.node.now.state.left r h in let z : c.clock.inside.0 ≡ c.clock-clock.result = c.clock.view_is in
          let y : c.clock-clock.result ≡ c.args.node.now.state.own = c.clock-clock.ensures in
          let next : c.clock.inside.0 + 1 ≡ suc c.args.node.now.state.own = omega arith in
          c.in_ok-reserve_named.ensures.room w.0 (c.at.ensures ∙ ap (λ k. at_clock c.args.history.now k) next ∙ c.requires.next ∙ w.1) r w.2)
    ]) q)

pub returns-clause-acts : goal.returns-clause-acts
returns-clause-acts c =
    let apart : AreDistinct (next_names dependencies c.args.node.now.state.left) = next_apart dependencies c.args.node.now.state.left c.requires.next_apart in
    let waits = same_trans c.args.links.now.items c.reserve_all.new.links.items c.reserve_named.new.links.items c.in_ok-reserve_all.ensures.same c.in_ok-reserve_named.ensures.same in
    node_acts c.args.id (c.do_next.new.self.handed + length c.do_next.new.self.outbox) (after_changing dependencies c.args.node.now.state) (done_log dependencies c.args.node.now.state)
    c.args.node.now c.do_next.new.self c.hand_over.new.node c.args.links.now.items c.reserve_named.new.links.items c.hand_over.new.links.items
    c.in_ok-is_done.ensures.state c.in_ok-is_done.ensures.log (changes_stay c.args.node.now c.do_next.new.self c.in_ok-is_done.ensures.state c.in_ok-is_done.ensures.log) c.requires.ready.handed (λ p. (done_bounded dependencies c.args.node.now.state c.requires.apart c.args.node.now.state.left refl apart).taken_same p)
    c.hand_over.ensures.node waits.waiting c.hand_over.ensures.len c.hand_over.ensures.links
