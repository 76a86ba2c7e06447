-- What a change makes of a node.
use Rattle.std.proofs.Common.{◌≡◌, ℕ, suc, true, List, ◌∷◌, ◌++◌, Option, Some, sym, ap, ◌∙◌}
use Rattle.propagation.specs.Logs.{Entry as TheEntry}
use Rattle.propagation.specs.Logs.Entry.{Did as TheDid}
use Rattle.service_machine.specs.States.{Slot, State, edges_to}
use Rattle.service_machine.specs.Steps.{targets, cut_to, cut_others, after_changing, done_with, done_log, done_log_with}
use Rattle.svc_graph.specs.declared.definition.Definition.{Definition}
use Rattle.svc_graph.specs.History.{dependencies}
use Rattle.svc_value.specs.declared.value.Value.{Value}
use Rattle.node_core.specs.Rewiring.{rewired_frames}
use Rattle.node_core.proofs.DoneLemmas.{edges_targets}

-- the state after it
pub done_state : (s : State Value Definition) (d : Definition) (own : ℕ) (current : Option Definition) (rest left : List Definition) (edges : List (ℕ × ℕ)) (slots : List (Slot Value)) →
    s.left ≡ d ∷ rest → own ≡ suc s.own → current ≡ Some d → left ≡ rest → edges ≡ edges_to s.edges own (dependencies d) → slots ≡ cut_to edges own s.slots ++ cut_others (targets edges) own s.slots →
    record s { own = own; definition = current; left = left; due = true; edges = edges; slots = slots } ≡ after_changing dependencies s
done_state s d own current rest left edges slots coming clock is after wired placed =
    let to : edges ≡ edges_to s.edges (suc s.own) (dependencies d) = wired ∙ ap (λ c. edges_to s.edges c (dependencies d)) clock in
    let names : targets edges ≡ dependencies d = ap (λ es. targets es) wired ∙ edges_targets s.edges own (dependencies d) in
    let slots_are : slots ≡ cut_to (edges_to s.edges (suc s.own) (dependencies d)) (suc s.own) s.slots ++ cut_others (dependencies d) (suc s.own) s.slots =
    placed ∙ (λ i. cut_to (to i) (clock i) s.slots ++ cut_others (names i) (clock i) s.slots) in
    (λ i. record s { own = clock i; definition = is i; left = after i; due = true; edges = to i; slots = slots_are i }) ∙ ap (λ ds. done_with dependencies s ds) (sym coming)

-- the log after it
pub done_step : (s : State Value Definition) (d : Definition) (own : ℕ) (rest : List Definition) (log : List (TheEntry Value)) → s.left ≡ d ∷ rest → own ≡ suc s.own →
    rewired_frames s.edges own (dependencies d) (TheDid own ∷ log) ≡ done_log dependencies s log
done_step s d own rest log coming clock =
    ap (λ c. rewired_frames s.edges c (dependencies d) (TheDid c ∷ log)) clock ∙ ap (λ ds. done_log_with dependencies s ds log) (sym coming)
