-- Step lines, one more; and the leg that they and a drain, or threads, have run.
use Rattle.std.proofs.Common.{◌≡◌, ◌∙◌, sym, ap, subst, refl, ℕ, ◌+◌, ◌<◌, Bool, true, false, List, [], ◌∷◌, ◌++◌, append-nil, append_assoc, All, length, map, reverse, take, slice_index_or}
use Rattle.std.proofs.lemmas.List.{map-append, reverse-append, take_more}
use Rattle.std.proofs.lemmas.List.Concat.{flat_map-append}
use Rattle.std.proofs.lemmas.List.Elements.{All-append, All-cons, All-nil}
use Rattle.propagation.specs.Notes.{Step, Note, Noted}
use Rattle.service_machine.specs.Noting.{step_of}
use Rattle.settle_core.specs.Quiet.{is_quiet}
use Rattle.settle_core.specs.Running.{Goes}
use Rattle.settle_core.specs.Events.{AreDeclared, event_of}
use Rattle.settle_core.specs.Legs.{IsNetwork, IsNoted}
use Rattle.settle_core.specs.Net.{NetworkView}
use Rattle.settle_core.specs.Opening.{Opened}
use Rattle.settle_core.specs.Workers.{SameLeg}
use Rattle.settle_core.proofs.NotedLemmas.{notes_go_on}
use Rattle.settle_core.proofs.StayLemmas.{notes_stay}
use Rattle.svc_graph.specs.History.{Row}
use Rattle.svc_plan.specs.declared.plan.Leg.{Leg}
use Rattle.svc_plan.specs.declared.plan.StepEvent.{StepEvent}
use Rattle.svc_plan.specs.declared.plan.StepEvent.TheVariants.{Do, Take, Turn}
use Rattle.svc_plan.specs.declared.plan.StepLine.{StepLine}
use Rattle.svc_plan.specs.Rows.{rows_after, IsAmong, IsLegAfter}
use Rattle.trace_text.specs.Blocks.{if_wanted}
use Rattle.trace_text.specs.Named.{naming}
use Rattle.trace_text.specs.Notes.{IsNoteOf, step_line, steps_text}
use Rattle.qprop_cli.specs.Commands.Step.{as_step, AreNumbered}
use Rattle.qprop_cli.specs.Inside.StepLines.{ordered, AreNamed, Makes, HasStepped, RunsLeg}
use Rattle.qprop_cli.proofs.EndedLemmas.{has_run, opened_start}

-- ---- the services of step lines

is_declared : (count : ℕ) (event : StepEvent) → IsAmong count event → AreDeclared count (ordered event)
is_declared count (Do n) is = is
is_declared count (Take n p) is = is
is_declared count (Turn n) is = is

-- those of a leg are declared by its end
pub steps_named : (rows : List Row) (leg : Leg) → IsLegAfter rows leg → AreNamed (length (rows_after rows leg)) leg.steps
steps_named rows leg after k d less = is_declared (length (rows_after rows leg)) (slice_index_or leg.steps k d).event (after.steps k d less)

-- ---- one line more

same_step : (asked : StepEvent) → step_of (event_of (ordered asked)) ≡ as_step asked
same_step (Do n) = refl
same_step (Take n p) = refl
same_step (Turn n) = refl

pub wanted_none : (is_wanted : Bool) (text : List ℕ) → text ≡ text ++ if_wanted is_wanted []
wanted_none true text = sym (append-nil text)
wanted_none false text = sym (append-nil text)

-- what is wanted of two texts is wanted of each
wanted_more : (is_wanted : Bool) (before front behind : List ℕ) → (before ++ if_wanted is_wanted front) ++ if_wanted is_wanted behind ≡ before ++ if_wanted is_wanted (front ++ behind)
wanted_more true before front behind = append_assoc before front behind
wanted_more false before front behind = append-nil (before ++ [])

pub stepped_none : (is_wanted : Bool) (net : NetworkView) (text : List ℕ) → IsNoted net [] → HasStepped is_wanted [] net net text text
stepped_none is_wanted net text noted = record {
  rows = refl;
  start = λ n. refl;
  lines = [];
  noted = noted;
  notes = [];
  numbered = AreNumbered.none;
  named = All-nil (λ (step : ℕ × Note). IsNoteOf (length net.rows) step.1);
  text = wanted_none is_wanted text;
}

-- one step line more, as its number and its note
text_more : (is_wanted : Bool) (rows : List Row) (notes : List (ℕ × Note)) (line : ℕ) (note : Note) (first before after : List ℕ) → before ≡ first ++ if_wanted is_wanted (steps_text (naming rows) notes) →
    after ≡ before ++ if_wanted is_wanted (step_line (naming rows) line note) → after ≡ first ++ if_wanted is_wanted (steps_text (naming rows) (notes ++ (line, note) ∷ []))
text_more is_wanted rows notes line note first before after so_far more =
    let front : List ℕ = steps_text (naming rows) notes in
    let last : List ℕ = step_line (naming rows) line note in
    let whole : steps_text (naming rows) (notes ++ (line, note) ∷ []) ≡ front ++ last =
    flat_map-append (λ (step : ℕ × Note). step_line (naming rows) step.0 step.1) notes ((line, note) ∷ []) ∙ ap (λ (t : List ℕ). front ++ t) (append-nil last) in
    more ∙ ap (λ (t : List ℕ). t ++ if_wanted is_wanted last) so_far ∙ wanted_more is_wanted first front last ∙ ap (λ (t : List ℕ). first ++ if_wanted is_wanted t) (sym whole)

pub stepped_next : (is_wanted : Bool) (steps : List StepLine) (i : ℕ) (step : StepLine) (first old new : NetworkView) (text before after : List ℕ) → i < length steps → step ≡ slice_index_or steps i step →
    HasStepped is_wanted (take i steps) first old text before → new.rows ≡ old.rows → Makes is_wanted step old new before after → HasStepped is_wanted (take (i + 1) steps) first new text after
stepped_next is_wanted steps i step first old new text before after less at so_far rows makes =
    let was = so_far.noted.has in
    let h = makes.happened was.leg was.low was.logs was.is in
    let more : take i steps ++ step ∷ [] ≡ take (i + 1) steps = sym (take_more steps i step less ∙ ap (λ (x : StepLine). take i steps ++ x ∷ []) (sym at)) in
    let P : Step → Type 0 = λ s. IsNoted new ((s, makes.note) ∷ so_far.lines) in
    let Q : List StepLine → Type 0 = λ ss. AreNumbered ss ((as_step step.event, makes.note) ∷ so_far.lines) (so_far.notes ++ (step.line, makes.note) ∷ []) in
    let R : ℕ × Note → Type 0 = λ s. IsNoteOf (length first.rows) s.1 in
    let named : IsNoteOf (length first.rows) makes.note = subst (λ (rs : List Row). IsNoteOf (length rs) makes.note) so_far.rows makes.named in
    let line : after ≡ before ++ if_wanted is_wanted (step_line (naming first.rows) step.line makes.note) = makes.text ∙ ap (λ (rs : List Row). before ++ if_wanted is_wanted (step_line (naming rs) step.line makes.note)) so_far.rows in
    record {
      rows = rows ∙ so_far.rows;
      start = λ n. sym (h.in_leg.start n) ∙ was.is.start n ∙ so_far.start n;
      lines = (as_step step.event, makes.note) ∷ so_far.lines;
      noted = subst P (same_step step.event) (notes_go_on old new (event_of (ordered step.event)) makes.note so_far.lines so_far.noted makes.happened);
      notes = so_far.notes ++ (step.line, makes.note) ∷ [];
      numbered = subst Q more (AreNumbered.more step makes.note so_far.numbered);
      named = All-append R so_far.notes ((step.line, makes.note) ∷ []) so_far.named (All-cons R (step.line, makes.note) [] named (All-nil R));
      text = text_more is_wanted first.rows so_far.notes step.line makes.note text before after so_far.text line;
    }

-- the lines that are numbered are these step lines
pub numbered_lines : {steps : List StepLine} {lines : Noted} {notes : List (ℕ × Note)} → AreNumbered steps lines notes → map (λ line. line.0) lines ≡ reverse (map (λ step. as_step step.event) steps)
numbered_lines AreNumbered.none = refl
numbered_lines (AreNumbered.more {steps = steps} step note numbered) =
    let f : StepLine → Step = λ s. as_step s.event in
    ap (λ (ss : List Step). f step ∷ ss) (numbered_lines numbered)
    ∙ sym (ap (λ (xs : List Step). reverse xs) (map-append f steps (step ∷ [])) ∙ reverse-append (map f steps) (f step ∷ []))

-- ---- the leg that was run

-- the step lines and a drain have run the leg
pub leg_run : (is_wanted : Bool) (old opened stepped new : NetworkView) (leg : Leg) (before after : List ℕ) → IsLegAfter old.rows leg → Opened leg old opened → HasStepped is_wanted leg.steps opened stepped before after → IsNetwork stepped → Goes stepped new → IsNetwork new → is_quiet new ≡ true →
    RunsLeg is_wanted old.rows leg new before after
unfolding has_run
leg_run is_wanted old opened stepped new leg before after is_after opens steps was_network goes network quiet =
    let was = steps.noted.has in
    let runs = goes.runs was.leg was.low was.logs was.is in
    let same : opened.rows ≡ new.rows = sym (goes.rows ∙ steps.rows) in
    record {
      run = has_run old.rows new leg network quiet was.leg was.low runs.logs runs.in_leg (λ n. was.is.start n ∙ steps.start n ∙ opened_start old opened leg is_after opens n)
          steps.lines (numbered_lines steps.numbered) (notes_stay stepped new steps.lines was_network steps.noted goes);
      notes = steps.notes;
      numbered = steps.numbered;
      named = subst (λ (rows : List Row). All (λ (step : ℕ × Note). IsNoteOf (length rows) step.1) steps.notes) same steps.named;
      text = steps.text ∙ ap (λ (rows : List Row). before ++ if_wanted is_wanted (steps_text (naming rows) steps.notes)) same;
    }

-- and so have threads, where it has no step lines
pub leg_threaded : (is_wanted : Bool) (old opened new : NetworkView) (leg : Leg) (text : List ℕ) → leg.steps ≡ [] → IsLegAfter old.rows leg → Opened leg old opened → IsNoted opened [] → SameLeg opened new → IsNetwork new → is_quiet new ≡ true →
    RunsLeg is_wanted old.rows leg new text text
unfolding has_run
leg_threaded is_wanted old opened new leg text none is_after opens noted same network quiet =
    let was = noted.has in
    let now_in = same.leg was.leg was.low was.logs was.is in
    let lines : [] ≡ reverse (map (λ (step : StepLine). as_step step.event) leg.steps) = ap (λ (steps : List StepLine). reverse (map (λ (step : StepLine). as_step step.event) steps)) (sym none) in
    record {
      run = has_run old.rows new leg network quiet was.leg now_in.low now_in.logs now_in.is (λ n. was.is.start n ∙ opened_start old opened leg is_after opens n) [] lines tt;
      notes = [];
      numbered = subst (λ (steps : List StepLine). AreNumbered steps [] []) (sym none) AreNumbered.none;
      named = All-nil (λ (step : ℕ × Note). IsNoteOf (length new.rows) step.1);
      text = wanted_none is_wanted text;
    }
