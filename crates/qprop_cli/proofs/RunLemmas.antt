-- A run of legs goes on by one leg.
-- Where `i` legs were run, the rows are those after the front `take i legs`, and the text that was added is theirs; so it stays with one leg more.
use Rattle.std.proofs.Common.{◌≡◌, ◌∙◌, sym, ap, subst, refl, ℕ, ◌+◌, ◌<◌, true, List, [], ◌∷◌, ◌++◌, ◌⊎◌, inl, inr, Option, Result, Ok, Err, OnOk, OnErr, append_assoc, append-nil, length, take, drop, take-append-drop, slice_index_or}
use Rattle.std.proofs.lemmas.List.{take_more}
use Rattle.std.proofs.KnownBytes.{Appends-nil, Appends-trans, Appends-kept}
use Rattle.std.specs.Io.KnownBytes.{Keeps}
use Rattle.command_words.specs.declared.trace_flags.TraceFlags.{TraceFlags}
use Rattle.propagation.specs.History.{Central}
use Rattle.settle_core.specs.Quiet.{is_quiet}
use Rattle.settle_core.specs.Net.{NetworkView}
use Rattle.svc_graph.specs.Central.{AreCentral}
use Rattle.svc_graph.specs.History.{Row}
use Rattle.svc_plan.specs.declared.plan.Leg.{Leg}
use Rattle.svc_plan.specs.Rows.{rows_after, rows_after_all, IsLegAfter, AreLegsAfter}
use Rattle.trace_text.specs.Blocks.{Trace, IsTraceOf, trace_lines}
use Rattle.trace_text.specs.Named.{naming}
use Rattle.trace_text.specs.Settled.{Settles, settled_block}
use Rattle.trace_text.specs.Traces.{Traces}
use Rattle.qprop_cli.specs.Commands.Step.{HoldsCentral, HasRun, EndsWith, HasDone, IsTraced, AreTraced, IsTracedText, EndsTraces, wanted}
use Rattle.qprop_cli.specs.Inside.Blocks.{IsBlock, IsTracedBlock, AddsBlock, BeginsBlock, AddsText, BeginsText, AddsTraced}
use Rattle.qprop_cli.specs.Inside.Running.{HasRunAll}
use Rattle.qprop_cli.proofs.LegLemmas.{leg_at, rows_more, settles_more, traces_more, traced_more}

-- what holds anyway holds of an error
pub on_error : {T E : Type 0} (result : Result T E) (P : Type 0) → P → OnErr result P
on_error (Ok value) P p = tt
on_error (Err error) P p = p

-- and of an answer
pub on_answer : {T E : Type 0} (result : Result T E) (P : Type 0) → P → OnOk result P
on_answer (Ok value) P p = p
on_answer (Err error) P p = tt

-- of an answer holds what follows from what holds of it
pub if_answer : {T E : Type 0} (result : Result T E) (P Q : Type 0) → (P → Q) → OnOk result P → OnOk result Q
if_answer (Ok value) P Q f p = f p
if_answer (Err error) P Q f p = tt

-- ---- no leg

-- the network without services
abbrev empty : NetworkView
empty = record { rows = []; services = []; links = [] }

pub ran_none : (network : NetworkView) → network ≡ empty → HasRunAll [] network
ran_none network new = subst (λ (n : NetworkView). HasRunAll [] n) (sym new) (record { histories = refl; quiet = refl; last = EndsWith.no_leg })

done_none : HasDone [] empty
done_none = record {
  histories = refl;
  quiet = refl;
  holds = record { values = []; held = refl; central = Central.none };
  last = EndsWith.no_leg;
}

pub settled_none : (held : Option (List ℕ)) → AddsText (Settles 0 []) held held []
settled_none held = record { text = []; is_text = Settles.none; added = Appends-nil held }

pub traced_none : (flags : TraceFlags) (held : Option (List ℕ)) (network : NetworkView) → network ≡ empty → AddsTraced flags held held [] network
traced_none flags held network new = subst (λ (n : NetworkView). AddsTraced flags held held [] n) (sym new) (record {
  adds = record { text = []; is_text = record { traces = []; traced = AreTraced.none; lines = Traces.none }; added = Appends-nil held };
  done = record { done = done_none; last = EndsTraces.no_trace };
})

-- ---- one block more

-- a text of `i` legs and a block are a text of one leg more
module _ (Is : List Leg → List ℕ → Type 0) (IsNext : List ℕ → Type 0) (legs : List Leg) (i : ℕ) (grows : (text block : List ℕ) → Is (take i legs) text → IsNext block → Is (take (i + 1) legs) (text ++ block)) where
  pub text_more : (first old new : Option (List ℕ)) → AddsText Is first old (take i legs) → AddsBlock IsNext old new → AddsText Is first new (take (i + 1) legs)
  text_more first old new so_far more =
      record {
        text = so_far.text ++ more.block;
        is_text = grows so_far.text more.block so_far.is_text more.is_block;
        added = Appends-trans first old new so_far.text more.block so_far.added more.added;
      }

  -- the run stops at this leg
  pub stopped : (first old new : Option (List ℕ)) → AddsText Is first old (take i legs) → Keeps old new ⊎ BeginsBlock IsNext old new → BeginsText Is first new legs
  stopped first old new so_far (inl kept) =
      record {
        run = take i legs;
        left = drop i legs;
        all = take-append-drop i legs;
        text = so_far.text;
        is_text = so_far.is_text;
        begun = record { added = so_far.text; rest = []; whole = append-nil so_far.text; gained = Appends-kept first old new so_far.text so_far.added kept };
      }
  stopped first old new so_far (inr cut) =
      record {
        run = take (i + 1) legs;
        left = drop (i + 1) legs;
        all = take-append-drop (i + 1) legs;
        text = so_far.text ++ cut.block;
        is_text = grows so_far.text cut.block so_far.is_text cut.is_block;
        begun = record {
          added = so_far.text ++ cut.begun.added;
          rest = cut.begun.rest;
          whole = append_assoc so_far.text cut.begun.added cut.begun.rest ∙ ap (λ b. so_far.text ++ b) cut.begun.whole;
          gained = Appends-trans first old new so_far.text cut.begun.added so_far.added cut.begun.gained;
        };
      }

-- ---- one leg more

module _ (legs : List Leg) (i : ℕ) (leg : Leg) (rows : List Row) (there : i < length legs) (next : leg ≡ slice_index_or legs i leg) (before : rows ≡ rows_after_all [] (take i legs)) where
  pub next_leg : AreLegsAfter [] legs → IsLegAfter rows leg
  next_leg each =
      subst (λ r. IsLegAfter r leg) (sym before) (subst (λ l. IsLegAfter (rows_after_all [] (take i legs)) l) (sym next) (leg_at [] legs i leg there each))

  after : rows_after rows leg ≡ rows_after (rows_after_all [] (take i legs)) (slice_index_or legs i leg)
  after = (λ j. rows_after (before j) (next j))

  -- the rows after the front with this leg
  pub rows_next : rows_after rows leg ≡ rows_after_all [] (take (i + 1) legs)
  rows_next = after ∙ sym (rows_more [] legs i leg there)

  ends_more : (new : NetworkView) → HasRun rows leg new → EndsWith (take (i + 1) legs) new
  ends_more new ran =
      let P : List Row → Type 0 = λ r. HasRun r leg new in
      let Q : List Leg → Type 0 = λ ls. EndsWith ls new in
      let more : take (i + 1) legs ≡ take i legs ++ leg ∷ [] = take_more legs i leg there ∙ ap (λ (l : Leg). take i legs ++ l ∷ []) (sym next) in
      subst Q (sym more) (EndsWith.last_leg (take i legs) leg (subst P before ran))

  pub ran_more : (new : NetworkView) → new.rows ≡ rows_after rows leg → is_quiet new ≡ true → HasRun rows leg new → HasRunAll (take (i + 1) legs) new
  ran_more new histories quiet ran = record { histories = histories ∙ rows_next; quiet = quiet; last = ends_more new ran }

  -- ---- its text

  settles_block : (text block : List ℕ) → Settles 0 [] (take i legs) text → IsBlock (i + 1) (rows_after rows leg) block → Settles 0 [] (take (i + 1) legs) (text ++ block)
  settles_block text block so_far is =
      let here = subst (λ r. AreCentral r is.values) after is.central in
      let said : block ≡ settled_block (i + 1) (rows_after (rows_after_all [] (take i legs)) (slice_index_or legs i leg)) is.values =
      is.text ∙ ap (λ r. settled_block (i + 1) r is.values) after in
      subst (λ b. Settles 0 [] (take (i + 1) legs) (text ++ b)) (sym said) (settles_more legs i leg is.values text there so_far here)

  pub settled_more : (first old new : Option (List ℕ)) → AddsText (Settles 0 []) first old (take i legs) → AddsBlock (IsBlock (i + 1) (rows_after rows leg)) old new → AddsText (Settles 0 []) first new (take (i + 1) legs)
  settled_more = text_more (Settles 0 []) (IsBlock (i + 1) (rows_after rows leg)) legs i settles_block

  pub settling_stopped : (first old new : Option (List ℕ)) → AddsText (Settles 0 []) first old (take i legs) → Keeps old new ⊎ BeginsBlock (IsBlock (i + 1) (rows_after rows leg)) old new → BeginsText (Settles 0 []) first new legs
  settling_stopped = stopped (Settles 0 []) (IsBlock (i + 1) (rows_after rows leg)) legs i settles_block

  -- ---- its text with trace lines

  module _ (flags : TraceFlags) (network : NetworkView) where
    traces_block : (text block : List ℕ) → IsTracedText flags (take i legs) text → IsTracedBlock flags (i + 1) rows leg network block → IsTracedText flags (take (i + 1) legs) (text ++ block)
    traces_block text block so_far is =
        let here : List Row = rows_after (rows_after_all [] (take i legs)) (slice_index_or legs i leg) in
        let central = subst (λ r. AreCentral r is.values) after is.central in
        let within = subst (λ (r : List Row). IsTraceOf (length r) is.trace) after is.within in
        let P : List Row → Type 0 = λ r. IsTraced r leg network is.trace in
        let Q : Leg → Type 0 = λ l. IsTraced (rows_after_all [] (take i legs)) l network is.trace in
        let said : block ≡ trace_lines (wanted flags) (naming here) is.trace ++ settled_block (i + 1) here is.values =
        is.text ∙ ap (λ r. trace_lines (wanted flags) (naming r) is.trace ++ settled_block (i + 1) r is.values) after in
        record {
          traces = so_far.traces ++ is.trace ∷ [];
          traced = traced_more legs i leg is.trace so_far.traces network there so_far.traced (subst Q next (subst P before is.traced));
          lines = subst (λ b. Traces (wanted flags) 0 [] (take (i + 1) legs) (so_far.traces ++ is.trace ∷ []) (text ++ b)) (sym said)
              (traces_more (wanted flags) legs i leg is.values is.trace so_far.traces text there so_far.lines central within);
        }

    pub tracing_stopped : (first old new : Option (List ℕ)) → AddsText (IsTracedText flags) first old (take i legs) → Keeps old new ⊎ BeginsBlock (IsTracedBlock flags (i + 1) rows leg network) old new → BeginsText (IsTracedText flags) first new legs
    tracing_stopped = stopped (IsTracedText flags) (IsTracedBlock flags (i + 1) rows leg network) legs i traces_block

    pub traced_leg : (first old new : Option (List ℕ)) → AddsText (IsTracedText flags) first old (take i legs) → AddsBlock (IsTracedBlock flags (i + 1) rows leg network) old new →
        network.rows ≡ rows_after rows leg → is_quiet network ≡ true → HoldsCentral network → AddsTraced flags first new (take (i + 1) legs) network
    unfolding text_more traces_block
    traced_leg first old new so_far more histories quiet holds =
        let traced = more.is_block.traced in
        record {
          adds = text_more (IsTracedText flags) (IsTracedBlock flags (i + 1) rows leg network) legs i traces_block first old new so_far more;
          done = record {
            done = record { histories = histories ∙ rows_next; quiet = quiet; holds = holds; last = ends_more network traced.run };
            last = EndsTraces.last_trace so_far.is_text.traces more.is_block.trace (ap (λ (t : Trace). t.logs) traced.is);
          };
        }
