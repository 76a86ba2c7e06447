-- What a worker keeps as it works.
use Rattle.std.proofs.Common.{◌≡◌, ◌≢◌, ℕ, ◌==◌, if◌then◌else◌, List, [], ◌∷◌, ◌++◌, length, Option, Some, None, refl, sym, ap, ap₂, ◌∙◌, subst, arith, inl, inr, append_assoc, slice_get, option_to_list, eqb-true, ◌⊎◌, Bool, true, false}
use Rattle.std.specs.Option.{IsSome}
use Rattle.std.proofs.lemmas.Bool.{cases_Bool, eqb-false}
use Rattle.std.proofs.lemmas.List.{append-nil}
use Rattle.propagation.specs.Lists.{Has}
use Rattle.propagation.specs.Logs.{Entry as TheEntry, Frame, frames_sent, frames_taken, reply}
use Rattle.propagation.specs.Logs.Entry.{Took as TheTook}
use Rattle.propagation.specs.Logs.Frame.{Subscribe, Unsubscribe, Sources, Changed}
use Rattle.propagation.proofs.Lists.{Has-append_cases}
use Rattle.service_machine.specs.States.{Reader, State, services, edges_to, dropped, all_told}
use Rattle.service_machine.specs.Steps.{after_changing, after_taking, after_turning, choice_of, done_log, done_with, targets, took_log, turn_log, turned_to, after_computing}
use Rattle.service_machine.specs.Turning.{Choice}
use Rattle.service_machine.specs.Turning.Choice.{Advance, Compute, Empty, Lags, Still}
use Rattle.svc_graph.specs.declared.definition.Definition.{Definition}
use Rattle.svc_graph.specs.History.{dependencies, meaning_of}
use Rattle.svc_value.specs.declared.value.Value.{Value}
use Rattle.link_fifo.specs.declared.piece_in.PieceIn.{PieceIn}
use Rattle.link_fifo.specs.declared.piece_out.PieceOut.{PieceOut}
use Rattle.node_core.specs.declared.entry.Entry.{Entry}
use Rattle.node_core.specs.Entries.{sent_to}
use Rattle.node_core.specs.Outbox.{waiting}
use Rattle.node_core.specs.Taking.{Takes}
use Rattle.node_core.specs.View.{NodeView, Grows, Logs, outgoing_in}
use Rattle.node_core.specs.declared.entry.Entry.TheVariants.{Took}
use Rattle.node_core.proofs.PostedLemmas.{sent_append, waiting_append}
use Rattle.settle_core.specs.declared.wired.WiredNode.{WiredNode}
use Rattle.settle_core.specs.Inside.Working.{to_of, from_of, held_of, SpeaksTo, IsWorker}
use Rattle.settle_core.specs.Net.{took_from}
use Rattle.settle_core.specs.Rings.{handed_to, received_from}
use Rattle.settle_core.proofs.ActingLemmas.{took_append}
use Rattle.settle_core.proofs.BoundLemmas.{has_or, next_names, next_has, turn_within, done_within, to_other}
use Rattle.settle_core.proofs.NodeLemmas.{outgoing_waits, sent_count, took_none}
use Rattle.settle_core.proofs.TakeLemmas.{took_this, took_other}

-- ---- the log grows

-- a list without length is empty
none_there : {A : Type 0} (xs : List A) → length xs ≡ 0 → xs ≡ []
none_there [] e = refl
none_there (x ∷ xs) e = absurd (omega (arith, e))

some_or_none : {A : Type 0} (xs : List A) → (xs ≡ []) ⊎ (xs ≢ [])
some_or_none [] = inl refl
some_or_none (x ∷ xs) = inr (λ e. cc e)

module _ (old new : WiredNode) (was : IsWorker old) (to : (q : ℕ) → to_of new q ≡ to_of old q) (step : List (TheEntry Value) → List (TheEntry Value)) (grows : Grows old.node new.node step)
    (ps : List ℕ) (only : (q : ℕ) → (Has ps q → ⊥) → frames_sent q (step []) ≡ []) (ringed : (q : ℕ) → Has ps q → IsSome (to_of old q)) where
  sent_more : (q : ℕ) → sent_to q new.node.entries ≡ sent_to q old.node.entries ++ sent_to q grows.more
  sent_more q = ap (sent_to q) grows.entries ∙ sent_append q old.node.entries grows.more

  handed_more : (q : ℕ) → sent_to q new.node.entries ≡ handed_to (to_of new q) ++ waiting q new.node.outbox
  handed_more q =
      sent_more q ∙ ap (λ (bs : List (List ℕ)). bs ++ sent_to q grows.more) (was.handed q) ∙ append_assoc (handed_to (to_of old q)) (waiting q old.node.outbox) (sent_to q grows.more)
      ∙ ap₂ (λ (o : Option PieceOut) (bs : List (List ℕ)). handed_to o ++ bs) (sym (to q))
      (ap (λ (bs : List (List ℕ)). waiting q old.node.outbox ++ bs) (sym (outgoing_waits q grows.more)) ∙ sym (waiting_append q old.node.outbox (outgoing_in grows.more)) ∙ ap (waiting q) (sym grows.outbox))

  spoken : (q : ℕ) → sent_to q new.node.entries ≢ [] → IsSome (to_of new q)
  spoken q some =
      subst (λ (o : Option PieceOut). IsSome o) (sym (to q))
      (elim (some_or_none (sent_to q old.node.entries)) [
        | inr before ↦ was.speaks.sent q before
        | inl none ↦ elim (has_or ps q) [
          | inl has ↦ ringed q has
          | inr absent ↦ absurd (some (sent_more q ∙ ap₂ (λ (xs ys : List (List ℕ)). xs ++ ys) none
              (sym (outgoing_waits q grows.more) ∙ none_there (waiting q (outgoing_in grows.more)) (sent_count grows.more step grows.says q ∙ ap (λ (fs : List (Frame Value)). length fs) (only q absent)))))
        ]
      ])

  module _ (edges : (q : ℕ) → Has (targets new.node.state.edges) q → IsSome (to_of old q)) (left : (d : Definition) (q : ℕ) → Has new.node.state.left d → Has (dependencies d) q → IsSome (to_of old q))
      (readers : (q : ℕ) → Has (services new.node.state.readers) q → IsSome (to_of old q)) (from : (p : ℕ) → from_of new p ≡ from_of old p) where
    here : (q : ℕ) → IsSome (to_of old q) → IsSome (to_of new q)
    here q some = subst (λ (o : Option PieceOut). IsSome o) (sym (to q)) some

    pub worker_grown : ((p : ℕ) → received_from (from_of new p) ≡ took_from p new.node.entries ++ option_to_list (held_of new p)) → IsWorker new
    worker_grown received = record {
      handed = handed_more;
      received = received;
      speaks = record { edges = λ q has. here q (edges q has); left = λ d q has names. here q (left d q has names); readers = λ q has. here q (readers q has); sent = spoken };
      both = λ p some. here p (was.both p (subst (λ (o : Option PieceIn). IsSome o) (from p) some));
    }

    -- where nothing is taken, nothing more was received
    pub worker_goes : ((p : ℕ) → frames_taken p (step []) ≡ []) → ((p : ℕ) → held_of new p ≡ held_of old p) → IsWorker new
    worker_goes nothing held = worker_grown (λ p.
        ap received_from (from p) ∙ was.received p
        ∙ ap₂ (λ (xs : List (List ℕ)) (o : Option (List ℕ)). xs ++ option_to_list o)
        (sym (append-nil (took_from p old.node.entries)) ∙ ap (λ (bs : List (List ℕ)). took_from p old.node.entries ++ bs) (sym (took_none grows.more step grows.says p (nothing p)))
        ∙ sym (took_append p old.node.entries grows.more) ∙ ap (took_from p) (sym grows.entries)) (sym (held p)))

-- ---- a turn

told_services : (stamps : List (ℕ × ℕ)) (rs : List Reader) → services (all_told stamps rs) ≡ services rs
told_services stamps [] = refl
told_services stamps (r ∷ rs) = ap (λ ps. r.service ∷ ps) (told_services stamps rs)

module _ (s : State Value Definition) where
  turned_edges : (c : Choice) → (turned_to meaning_of s c).edges ≡ s.edges
  turned_edges (Advance p) = refl
  turned_edges Compute = go s.definition
    where
      go : (o : Option Definition) → (after_computing meaning_of s o).edges ≡ s.edges
      go None = refl
      go (Some d) = refl
  turned_edges (Empty p) = refl
  turned_edges (Lags p key) = refl
  turned_edges Still = refl

  turned_left : (c : Choice) → (turned_to meaning_of s c).left ≡ s.left
  turned_left (Advance p) = refl
  turned_left Compute = go s.definition
    where
      go : (o : Option Definition) → (after_computing meaning_of s o).left ≡ s.left
      go None = refl
      go (Some d) = refl
  turned_left (Empty p) = refl
  turned_left (Lags p key) = refl
  turned_left Still = refl

  turned_readers : (c : Choice) → services (turned_to meaning_of s c).readers ≡ services s.readers
  turned_readers (Advance p) = refl
  turned_readers Compute = go s.definition
    where
      go : (o : Option Definition) → services (after_computing meaning_of s o).readers ≡ services s.readers
      go None = refl
      go (Some d) = told_services _ s.readers
  turned_readers (Empty p) = refl
  turned_readers (Lags p key) = refl
  turned_readers Still = refl

module _ (old new : WiredNode) (was : IsWorker old) (to : (q : ℕ) → to_of new q ≡ to_of old q) (from : (p : ℕ) → from_of new p ≡ from_of old p) (held : (p : ℕ) → held_of new p ≡ held_of old p) where
  abbrev s : State Value Definition
  s = old.node.state

  pub worker_turned : new.node.state ≡ after_turning meaning_of s → Grows old.node new.node (turn_log meaning_of s) → IsWorker new
  worker_turned state grows =
      let within = turn_within meaning_of s in
      let edges : targets new.node.state.edges ≡ targets s.edges = ap (λ (x : State Value Definition). targets x.edges) state ∙ ap targets (turned_edges s (choice_of s)) in
      let left : new.node.state.left ≡ s.left = ap (λ (x : State Value Definition). x.left) state ∙ turned_left s (choice_of s) in
      let readers : services new.node.state.readers ≡ services s.readers = ap (λ (x : State Value Definition). services x.readers) state ∙ turned_readers s (choice_of s) in
      worker_goes old new was to (turn_log meaning_of s) grows (services s.readers) within.none was.speaks.readers
      (λ q has. was.speaks.edges q (subst (λ (ps : List ℕ). Has ps q) edges has))
      (λ d q has names. was.speaks.left d q (subst (λ (ds : List Definition). Has ds d) left has) names)
      (λ q has. was.speaks.readers q (subst (λ (ps : List ℕ). Has ps q) readers has)) from within.taken_same held

  -- ---- a change

  kept_targets : (before : List (ℕ × ℕ)) (c : ℕ) (ps : List ℕ) → targets (edges_to before c ps) ≡ ps
  kept_targets before c [] = refl
  kept_targets before c (p ∷ ps) = ap (λ qs. p ∷ qs) (kept_targets before c ps)

  done_edges : (left : List Definition) → ((d : Definition) (q : ℕ) → Has left d → Has (dependencies d) q → IsSome (to_of old q)) → (q : ℕ) → Has (targets (done_with dependencies s left).edges) q → IsSome (to_of old q)
  done_edges [] named q has = was.speaks.edges q has
  done_edges (d ∷ rest) named q has = named d q (inl refl) (subst (λ (ps : List ℕ). Has ps q) (kept_targets s.edges _ (dependencies d)) has)

  done_left : (left : List Definition) → s.left ≡ left → (d : Definition) → Has (done_with dependencies s left).left d → Has left d
  done_left [] is d has = subst (λ (ds : List Definition). Has ds d) is has
  done_left (x ∷ rest) is d has = inr has

  done_readers : (left : List Definition) → (done_with dependencies s left).readers ≡ s.readers
  done_readers [] = refl
  done_readers (d ∷ rest) = refl

  first_of : (left : List Definition) (d : Definition) → slice_get left 0 ≡ Some d → Has left d
  first_of [] d is = absurd (cc is)
  first_of (x ∷ rest) d is = inl (cc is)

  pub worker_did : new.node.state ≡ after_changing dependencies s → Grows old.node new.node (done_log dependencies s) → IsWorker new
  worker_did state grows =
      let within = done_within {V = Value} dependencies s s.left in
      worker_goes old new was to (done_log dependencies s) grows (targets s.edges ++ next_names dependencies s.left) within.none
      (λ q has. elim (Has-append_cases (targets s.edges) (next_names dependencies s.left) q has) [
        | inl h ↦ was.speaks.edges q h
        | inr h ↦ (let w = next_has dependencies s.left q h in was.speaks.left w.0 q (first_of s.left w.0 w.1) w.2)
      ])
      (λ q has. done_edges s.left was.speaks.left q (subst (λ (x : State Value Definition). Has (targets x.edges) q) state has))
      (λ d q has names. was.speaks.left d q (done_left s.left refl d (subst (λ (x : State Value Definition). Has x.left d) state has)) names)
      (λ q has. was.speaks.readers q (subst (λ (rs : List Reader). Has (services rs) q) (done_readers s.left) (subst (λ (x : State Value Definition). Has (services x.readers) q) state has)))
      from within.taken_same held

-- ---- a frame

taken_edges : (p : ℕ) (f : Frame Value) (s : State Value Definition) → (after_taking p f s).edges ≡ s.edges
taken_edges p (Subscribe e) s = refl
taken_edges p (Unsubscribe e) s = refl
taken_edges p (Sources e ks) s = refl
taken_edges p (Changed e v pairs) s = refl

taken_left : (p : ℕ) (f : Frame Value) (s : State Value Definition) → (after_taking p f s).left ≡ s.left
taken_left p (Subscribe e) s = refl
taken_left p (Unsubscribe e) s = refl
taken_left p (Sources e ks) s = refl
taken_left p (Changed e v pairs) s = refl

services_more : (rs : List Reader) (r : Reader) (q : ℕ) → Has (services (rs ++ r ∷ [])) q → Has (services rs) q ⊎ (r.service ≡ q)
services_more [] r q (inl e) = inr e
services_more [] r q (inr h) = absurd h
services_more (x ∷ rs) r q (inl e) = inl (inl e)
services_more (x ∷ rs) r q (inr h) = elim (services_more rs r q h) [ inl k ↦ inl (inr k) | inr e ↦ inr e ]

services_fewer : (rs : List Reader) (p q : ℕ) → Has (services (dropped rs p)) q → Has (services rs) q
services_fewer [] p q = λ has. has
services_fewer (r ∷ rs) p q = go (r.service == p) (services_fewer rs p q)
  where
    go : (b : Bool) → (Has (services (dropped rs p)) q → Has (services rs) q) → Has (services (if b then dropped rs p else r ∷ dropped rs p)) q → Has (services (r ∷ rs)) q
    go true fewer has = inr (fewer has)
    go false fewer (inl e) = inl e
    go false fewer (inr h) = inr (fewer h)

taken_readers : (p : ℕ) (f : Frame Value) (s : State Value Definition) (q : ℕ) → Has (services (after_taking p f s).readers) q → Has (services s.readers) q ⊎ (p ≡ q)
taken_readers p (Subscribe e) s q has = services_more s.readers _ q has
taken_readers p (Unsubscribe e) s q has = inl (services_fewer s.readers p q has)
taken_readers p (Sources e ks) s q has = inl has
taken_readers p (Changed e v pairs) s q has = inl has

-- what was received from none is nothing
end_there : (o : Option PieceIn) (xs : List (List ℕ)) (bytes : List ℕ) → received_from o ≡ xs ++ bytes ∷ [] → IsSome o
end_there None [] bytes is = absurd (cc is)
end_there None (x ∷ xs) bytes is = absurd (cc is)
end_there (Some end) xs bytes is = refl

module _ (p : ℕ) (bytes : List ℕ) (old new : WiredNode) (was : IsWorker old) (to : (q : ℕ) → to_of new q ≡ to_of old q) (from : (k : ℕ) → from_of new k ≡ from_of old k)
    (first : held_of old p ≡ Some bytes) (gone : held_of new p ≡ None) (others : (k : ℕ) → k ≢ p → held_of new k ≡ held_of old k)
    (takes : Takes p bytes old.node new.node) (logged : Logs (Took p bytes) old.node new.node) where
  here_received : received_from (from_of old p) ≡ took_from p old.node.entries ++ bytes ∷ []
  here_received = was.received p ∙ ap (λ (o : Option (List ℕ)). took_from p old.node.entries ++ option_to_list o) first

  sender_there : IsSome (to_of old p)
  sender_there = was.both p (end_there (from_of old p) (took_from p old.node.entries) bytes here_received)

  more : List Entry
  more = takes.log.more

  took_all : (k : ℕ) → took_from k new.node.entries ≡ took_from k old.node.entries ++ took_from k takes.log.more
  took_all k = ap (took_from k) takes.log.entries ∙ took_append k old.node.entries takes.log.more

  received_more : (k : ℕ) → received_from (from_of new k) ≡ took_from k new.node.entries ++ option_to_list (held_of new k)
  received_more k =
      elim (cases_Bool (k == p)) [
        | inl t ↦ (let P : ℕ → Type 0 = λ j. received_from (from_of new j) ≡ took_from j new.node.entries ++ option_to_list (held_of new j) in
            subst P (sym (eqb-true k p t))
            (ap received_from (from p) ∙ here_received ∙ ap (λ (bs : List (List ℕ)). took_from p old.node.entries ++ bs) (sym (took_this p p bytes old.node new.node takes logged)) ∙ sym (took_all p)
            ∙ sym (append-nil (took_from p new.node.entries)) ∙ ap (λ (o : Option (List ℕ)). took_from p new.node.entries ++ option_to_list o) (sym gone)))
        | inr f ↦ (let ne = eqb-false k p f in
            ap received_from (from k) ∙ was.received k
            ∙ ap₂ (λ (xs : List (List ℕ)) (o : Option (List ℕ)). xs ++ option_to_list o)
            (sym (append-nil (took_from k old.node.entries)) ∙ ap (λ (bs : List (List ℕ)). took_from k old.node.entries ++ bs) (sym (took_other p p bytes old.node new.node takes logged k (λ e. ne (sym e)))) ∙ sym (took_all k))
            (sym (others k ne)))
      ]

  pub worker_took : IsWorker new
  worker_took =
      let s = old.node.state in
      worker_grown old new was to (took_log p takes.said s) takes.log (p ∷ []) (λ q absent. to_other p q (reply takes.said s.last) (TheTook p takes.said ∷ []) (λ e. absent (inl e)))
      (λ q has. elim has [ inl e ↦ subst (λ j. IsSome (to_of old j)) e sender_there | inr h ↦ absurd h ])
      (λ q has. was.speaks.edges q (subst (λ (es : List (ℕ × ℕ)). Has (targets es) q) (ap (λ (x : State Value Definition). x.edges) takes.state ∙ taken_edges p takes.said s) has))
      (λ d q has names. was.speaks.left d q (subst (λ (ds : List Definition). Has ds d) (ap (λ (x : State Value Definition). x.left) takes.state ∙ taken_left p takes.said s) has) names)
      (λ q has. elim (taken_readers p takes.said s q (subst (λ (x : State Value Definition). Has (services x.readers) q) takes.state has)) [
        | inl h ↦ was.speaks.readers q h
        | inr e ↦ subst (λ j. IsSome (to_of old j)) e sender_there
      ]) from received_more

-- ---- an item is received, and frames are handed over

-- an item more is held, where none was
pub worker_received : (p : ℕ) (old new : WiredNode) (item : Option (List ℕ)) → IsWorker old → new.node ≡ old.node → ((q : ℕ) → to_of new q ≡ to_of old q) → held_of old p ≡ None → held_of new p ≡ item →
    ((k : ℕ) → k ≢ p → held_of new k ≡ held_of old k) → received_from (from_of new p) ≡ received_from (from_of old p) ++ option_to_list item → ((k : ℕ) → k ≢ p → from_of new k ≡ from_of old k) →
    (IsSome (from_of new p) → IsSome (from_of old p)) → IsWorker new
worker_received p old new item was node to none held held_others more from_others some = record {
  handed = λ q. ap (λ (n : NodeView). sent_to q n.entries) node ∙ was.handed q ∙ ap₂ (λ (o : Option PieceOut) (n : NodeView). handed_to o ++ waiting q n.outbox) (sym (to q)) (sym node);
  received = received;
  speaks = subst (λ (n : NodeView). SpeaksTo (λ q. IsSome (to_of new q)) n) (sym node) (record {
    edges = λ q has. there q (was.speaks.edges q has);
    left = λ d q has names. there q (was.speaks.left d q has names);
    readers = λ q has. there q (was.speaks.readers q has);
    sent = λ q ne. there q (was.speaks.sent q ne);
  });
  both = λ k is. there k (was.both k (elim (cases_Bool (k == p)) [
    | inl t ↦ (let P : ℕ → Type 0 = λ j. IsSome (from_of new j) → IsSome (from_of old j) in subst P (sym (eqb-true k p t)) some is)
    | inr f ↦ subst (λ (o : Option PieceIn). IsSome o) (from_others k (eqb-false k p f)) is
  ]));
}
  where
    there : (q : ℕ) → IsSome (to_of old q) → IsSome (to_of new q)
    there q is = subst (λ (o : Option PieceOut). IsSome o) (sym (to q)) is

    received : (k : ℕ) → received_from (from_of new k) ≡ took_from k new.node.entries ++ option_to_list (held_of new k)
    received k =
        elim (cases_Bool (k == p)) [
          | inl t ↦ (let P : ℕ → Type 0 = λ j. received_from (from_of new j) ≡ took_from j new.node.entries ++ option_to_list (held_of new j) in
              subst P (sym (eqb-true k p t))
              (more ∙ ap (λ (bs : List (List ℕ)). bs ++ option_to_list item) (was.received p ∙ ap (λ (o : Option (List ℕ)). took_from p old.node.entries ++ option_to_list o) none ∙ append-nil (took_from p old.node.entries))
              ∙ ap₂ (λ (n : NodeView) (o : Option (List ℕ)). took_from p n.entries ++ option_to_list o) (sym node) (sym held)))
          | inr f ↦ (let ne = eqb-false k p f in
              ap received_from (from_others k ne) ∙ was.received k ∙ ap₂ (λ (n : NodeView) (o : Option (List ℕ)). took_from k n.entries ++ option_to_list o) (sym node) (sym (held_others k ne)))
        ]

-- frames went from the outbox to a ring end
pub worker_handed : (p : ℕ) (old new : WiredNode) → IsWorker old → new.node ≡ record old.node { outbox = new.node.outbox; handed = new.node.handed } →
    ((k : ℕ) → from_of new k ≡ from_of old k) → ((k : ℕ) → held_of new k ≡ held_of old k) →
    handed_to (to_of old p) ++ waiting p old.node.outbox ≡ handed_to (to_of new p) ++ waiting p new.node.outbox → ((q : ℕ) → q ≢ p → to_of new q ≡ to_of old q) → ((q : ℕ) → q ≢ p → waiting q new.node.outbox ≡ waiting q old.node.outbox) →
    (IsSome (to_of old p) → IsSome (to_of new p)) → IsWorker new
worker_handed p old new was node from held moved to_others frames some = record {
  handed = handed;
  received = λ k. ap received_from (from k) ∙ was.received k ∙ ap₂ (λ (es : List Entry) (o : Option (List ℕ)). took_from k es ++ option_to_list o) (sym entries) (sym (held k));
  speaks = record {
    edges = λ q has. there q (was.speaks.edges q (subst (λ (x : State Value Definition). Has (targets x.edges) q) state has));
    left = λ d q has names. there q (was.speaks.left d q (subst (λ (x : State Value Definition). Has x.left d) state has) names);
    readers = λ q has. there q (was.speaks.readers q (subst (λ (x : State Value Definition). Has (services x.readers) q) state has));
    sent = λ q ne. there q (was.speaks.sent q (subst (λ (es : List Entry). sent_to q es ≢ []) entries ne));
  };
  both = λ k is. there k (was.both k (subst (λ (o : Option PieceIn). IsSome o) (from k) is));
}
  where
    state : new.node.state ≡ old.node.state
    state = ap (λ (n : NodeView). n.state) node

    entries : new.node.entries ≡ old.node.entries
    entries = ap (λ (n : NodeView). n.entries) node

    there : (q : ℕ) → IsSome (to_of old q) → IsSome (to_of new q)
    there q is = elim (cases_Bool (q == p)) [
      | inl t ↦ (let P : ℕ → Type 0 = λ j. IsSome (to_of old j) → IsSome (to_of new j) in subst P (sym (eqb-true q p t)) some is)
      | inr f ↦ subst (λ (o : Option PieceOut). IsSome o) (sym (to_others q (eqb-false q p f))) is
    ]

    handed : (q : ℕ) → sent_to q new.node.entries ≡ handed_to (to_of new q) ++ waiting q new.node.outbox
    handed q =
        ap (sent_to q) entries ∙ was.handed q
        ∙ elim (cases_Bool (q == p)) [
          | inl t ↦ (let P : ℕ → Type 0 = λ j. handed_to (to_of old j) ++ waiting j old.node.outbox ≡ handed_to (to_of new j) ++ waiting j new.node.outbox in subst P (sym (eqb-true q p t)) moved)
          | inr f ↦ ap₂ (λ (o : Option PieceOut) (bs : List (List ℕ)). handed_to o ++ bs) (sym (to_others q (eqb-false q p f))) (sym (frames q (eqb-false q p f)))
        ]

-- a worker whose node is as it was
pub worker_same : (old new : WiredNode) → IsWorker old → new.node ≡ old.node → ((q : ℕ) → to_of new q ≡ to_of old q) → ((p : ℕ) → from_of new p ≡ from_of old p) → ((p : ℕ) → held_of new p ≡ held_of old p) → IsWorker new
worker_same old new was node to from held =
    worker_handed 0 old new was (node ∙ ap (λ (n : NodeView). record old.node { outbox = n.outbox; handed = n.handed }) (sym node)) from held
    (ap₂ (λ (o : Option PieceOut) (n : NodeView). handed_to o ++ waiting 0 n.outbox) (sym (to 0)) (sym node)) (λ q ne. to q) (λ q ne. ap (λ (n : NodeView). waiting q n.outbox) node)
    (λ is. subst (λ (o : Option PieceOut). IsSome o) (sym (to 0)) is)

-- where frames are left for a service, there is a ring to it
back_none : {A : Type 0} (xs ys : List A) → xs ++ ys ≡ [] → ys ≡ []
back_none [] ys e = e
back_none (x ∷ xs) ys e = absurd (cc e)

pub left_there : (p : ℕ) (old : WiredNode) (end : Option PieceOut) (outbox : List (ℕ × List ℕ)) → IsWorker old → handed_to (to_of old p) ++ waiting p old.node.outbox ≡ handed_to end ++ waiting p outbox → waiting p outbox ≢ [] → IsSome (to_of old p)
left_there p old end outbox was moved left = was.speaks.sent p (λ none. left (back_none (handed_to end) (waiting p outbox) (sym moved ∙ sym (was.handed p) ∙ none)))
