use Rattle.std.proofs.Common.{◌≡◌, ◌≤◌, ◌<◌, ◌∙◌, length, List, ℕ, sym, ap, subst, arith, unwrap_or, add-one, slice_index_or, Some}
use Rattle.propagation.specs.Logs.Frame.{Unsubscribe as TheUnsubscribe}
use Rattle.service_machine.specs.States.{epoch_in}
use Rattle.service_machine.specs.Steps.{targets}
use Rattle.wire_frame.specs.declared.frame.Frame.TheVariants.{Unsubscribe}
use Rattle.node_core.proofs.RewireLemmas.{sends_kept, sends_more, sends_whole, target_at, length_targets, epoch_positive}
use Rattle.node_core.proofs.rewiring.outgoing_leaving.Goals as goal

pub loop-edge-preserved-then-has : goal.loop-edge-preserved-then-has
loop-edge-preserved-then-has c =
    let lt : c.loop-edge.edge-index < length c.args.edges.now = (let P : List (ℕ × ℕ) → Type 0 = λ xs. c.loop-edge.edge-index < length xs in subst P c.as_slice-edge-items.ensures c.loop-edge-test.true) in
    let is : c.edge-item.result ≡ slice_index_or c.args.edges.now c.loop-edge.edge-index c.edge-item.result = c.edge-item.is ∙ ap (λ (xs : List (ℕ × ℕ)). slice_index_or xs c.loop-edge.edge-index c.edge-item.result) c.as_slice-edge-items.ensures in
    let lt2 : c.loop-edge.edge-index < length (targets c.args.edges.now) = omega (arith, lt, length_targets c.args.edges.now) in
    rw add-one (sends_kept c.loop-edge.outgoing (λ p. TheUnsubscribe (unwrap_or (epoch_in c.args.edges.now p) 0)) (targets c.args.edges.now) c.args.ids.now c.loop-edge.edge-index c.edge-item.result.0 (λ log. log) lt2 (target_at c.args.edges.now c.loop-edge.edge-index c.edge-item.result lt is)
    (sym c.has.ensures ∙ c.if-has.true) c.loop-edge.invariant)

pub unsubscribe-requires : goal.unsubscribe-requires
unsubscribe-requires c =
    let lt : c.loop-edge.edge-index < length c.args.edges.now = (let P : List (ℕ × ℕ) → Type 0 = λ xs. c.loop-edge.edge-index < length xs in subst P c.as_slice-edge-items.ensures c.loop-edge-test.true) in
    let is : c.edge-item.result ≡ slice_index_or c.args.edges.now c.loop-edge.edge-index c.edge-item.result = c.edge-item.is ∙ ap (λ (xs : List (ℕ × ℕ)). slice_index_or xs c.loop-edge.edge-index c.edge-item.result) c.as_slice-edge-items.ensures in
    let same : c.unwrap_or-epoch.result ≡ unwrap_or (epoch_in c.args.edges.now c.edge-item.result.0) 0 = c.unwrap_or-epoch.ensures ∙ ap (λ o. unwrap_or o 0) c.epoch.ensures in
    omega (arith, same, epoch_positive c.args.edges.now c.loop-edge.edge-index c.edge-item.result lt is c.requires)

pub loop-edge-preserved : goal.loop-edge-preserved
loop-edge-preserved c =
    let lt : c.loop-edge.edge-index < length c.args.edges.now = (let P : List (ℕ × ℕ) → Type 0 = λ xs. c.loop-edge.edge-index < length xs in subst P c.as_slice-edge-items.ensures c.loop-edge-test.true) in
    let is : c.edge-item.result ≡ slice_index_or c.args.edges.now c.loop-edge.edge-index c.edge-item.result = c.edge-item.is ∙ ap (λ (xs : List (ℕ × ℕ)). slice_index_or xs c.loop-edge.edge-index c.edge-item.result) c.as_slice-edge-items.ensures in
    let lt2 : c.loop-edge.edge-index < length (targets c.args.edges.now) = omega (arith, lt, length_targets c.args.edges.now) in
    let same : c.unwrap_or-epoch.result ≡ unwrap_or (epoch_in c.args.edges.now c.edge-item.result.0) 0 = c.unwrap_or-epoch.ensures ∙ ap (λ o. unwrap_or o 0) c.epoch.ensures in
    rw add-one (sends_more c.loop-edge.outgoing c.unsubscribe.new.self (λ p. TheUnsubscribe (unwrap_or (epoch_in c.args.edges.now p) 0)) (targets c.args.edges.now) c.args.ids.now c.loop-edge.edge-index c.edge-item.result.0 (Unsubscribe c.unwrap_or-epoch.result) (λ log. log) lt2
    (target_at c.args.edges.now c.loop-edge.edge-index c.edge-item.result lt is) (sym c.has.ensures ∙ c.if-has.false) c.loop-edge.invariant c.in_ok-unsubscribe.ensures (ap (λ e. Some (TheUnsubscribe e)) same))

pub returns : goal.returns
returns c =
    let end : length c.args.edges.now ≤ c.loop-edge.edge-index = (let P : List (ℕ × ℕ) → Type 0 = λ xs. length xs ≤ c.loop-edge.edge-index in subst P c.as_slice-edge-items.ensures c.loop-edge-test.false) in
    sends_whole c.loop-edge.outgoing (λ p. TheUnsubscribe (unwrap_or (epoch_in c.args.edges.now p) 0)) (targets c.args.edges.now) c.args.ids.now c.loop-edge.edge-index (λ log. log) (omega (arith, end, length_targets c.args.edges.now)) c.loop-edge.invariant
