-- The canonical step lines of a leg are accepted behind its changes.
use Rattle.std.proofs.Common.{◌≡◌, ℕ, ◌+◌, ◌≤◌, Bool, false, List, [], ◌∷◌, ◌++◌, length, map, Some, None, refl, sym, ap, ap₂, subst, ◌∙◌, append-nil, append_assoc, cond}
use Rattle.std.specs.Prelude.{◌||◌, nat_le, is_none, unwrap_or}
use Rattle.svc_graph.specs.History.{Row}
use Rattle.svc_token.specs.Word.{IsName}
use Rattle.std.proofs.lemmas.List.{map-append}
use Rattle.svc_plan.specs.declared.plan.Leg.{Leg}
use Rattle.svc_plan.specs.declared.plan.Mode.{Mode}
use Rattle.svc_plan.specs.declared.plan.Mode.TheVariants as mode
use Rattle.svc_plan.specs.declared.plan.ServiceLine.{ServiceLine}
use Rattle.svc_plan.specs.declared.plan.StepEvent.{StepEvent}
use Rattle.svc_plan.specs.declared.plan.StepEvent.TheVariants as event
use Rattle.svc_plan.specs.declared.plan.StepLine.{StepLine}
use Rattle.document_reading.specs.declared.refusal.Code.TheVariants.{E08, E19}
use Rattle.document_reading.specs.declared.statement.Statement.{Statement}
use Rattle.document_reading.specs.declared.statement.Statement.TheVariants as say
use Rattle.document_reading.specs.Document.{IsLine, AcceptsLine, Reads, line as one_more}
use Rattle.document_reading.specs.Refusals.{is_unknown, refusal}
use Rattle.document_reading.specs.State.{State, steps, next, service_named}
use Rattle.document_printing.specs.Canonical.{name_of, step_text}
use Rattle.document_printing.proofs.CanonicalBytes.{HasNoEnd}
use Rattle.document_printing.proofs.CanonicalLines.{HaveNoEnd, step_line}
use Rattle.document_printing.proofs.CanonicalNames.{lines_in, Known, known_grows, known_name, place_known}
use Rattle.document_printing.proofs.CanonicalSays.{said_step, IsStepSayable}
use Rattle.document_printing.specs.Canonical.{AreShort}

-- ---- events of declared services

-- the service has a name
pub record IsKnown (rows : List Row) (n : ℕ) : Type 0 where
  pub name : List ℕ
  pub is_name : IsName name
  pub known : Known (lines_in rows) name n

-- the services of the event have names
abbrev pub IsKnownStep : List Row → StepEvent → Type 0
IsKnownStep rows (event.Do n) = IsKnown rows n
IsKnownStep rows (event.Take reader sender) = IsKnown rows reader × IsKnown rows sender
IsKnownStep rows (event.Turn n) = IsKnown rows n

-- so do those of each step line, and the mode allows them
abbrev pub AreKnown : Mode → List Row → List StepLine → Type 0
AreKnown m rows [] = Unit {0}
AreKnown m rows (step ∷ steps) = (m ≡ mode.Step) × IsKnownStep rows step.event × AreKnown m rows steps

one_grows : (rows new : List Row) (more : List ServiceLine) (n : ℕ) → lines_in new ≡ lines_in rows ++ more → IsKnown rows n → IsKnown new n
one_grows rows new more n e k = record { name = k.name; is_name = k.is_name; known = subst (λ ls. Known ls k.name n) (sym e) (known_grows (lines_in rows) more k.name n k.known) }

step_grows : (rows new : List Row) (more : List ServiceLine) (ev : StepEvent) → lines_in new ≡ lines_in rows ++ more → IsKnownStep rows ev → IsKnownStep new ev
step_grows rows new more (event.Do n) e k = one_grows rows new more n e k
step_grows rows new more (event.Take reader sender) e k = (one_grows rows new more reader e k.0, one_grows rows new more sender e k.1)
step_grows rows new more (event.Turn n) e k = one_grows rows new more n e k

pub are_known_grows : (m : Mode) (rows new : List Row) (more : List ServiceLine) (xs : List StepLine) → lines_in new ≡ lines_in rows ++ more → AreKnown m rows xs → AreKnown m new xs
are_known_grows m rows new more [] e k = tt
are_known_grows m rows new more (x ∷ xs) e k = (k.0, step_grows rows new more x.event e k.1, are_known_grows m rows new more xs e k.2)

pub are_known-append : (m : Mode) (rows : List Row) (xs ys : List StepLine) → AreKnown m rows xs → AreKnown m rows ys → AreKnown m rows (xs ++ ys)
are_known-append m rows [] ys k l = l
are_known-append m rows (x ∷ xs) ys k l = (k.0, k.1, are_known-append m rows xs ys k.2 l)

-- ---- one step line

name_again : (rows : List Row) (more : List ServiceLine) (n : ℕ) (k : IsKnown rows n) → name_of (lines_in rows ++ more) n ≡ k.name
name_again rows more n k = known_name (lines_in rows ++ more) k.name n (known_grows (lines_in rows) more k.name n k.known)

found : (rows : List Row) (n : ℕ) (k : IsKnown rows n) → is_unknown rows k.name ≡ false
found rows n k = ap (λ o. is_none o) (place_known rows k.name n k.known)

number_again : (rows : List Row) (n : ℕ) (k : IsKnown rows n) → service_named rows k.name ≡ n
number_again rows n k = ap (λ o. unwrap_or o 0) (place_known rows k.name n k.known)

-- the statement of an event, by the names that are known
abbrev pub statement_of : (rows : List Row) (ev : StepEvent) → IsKnownStep rows ev → Statement
statement_of rows (event.Do n) k = say.Do k.name
statement_of rows (event.Take reader sender) k = say.Take k.0.name k.1.name
statement_of rows (event.Turn n) k = say.Turn k.name

module _ (t : State) (more : List ServiceLine) (room : nat_le 1000 (t.before + length t.ended) ≡ false) where
  sayable : (ev : StepEvent) → IsKnownStep t.rows ev → IsStepSayable (lines_in t.rows ++ more) ev
  sayable (event.Do n) k = subst IsName (sym (name_again t.rows more n k)) k.is_name
  sayable (event.Take reader sender) k = (subst IsName (sym (name_again t.rows more reader k.0)) k.0.is_name, subst IsName (sym (name_again t.rows more sender k.1)) k.1.is_name)
  sayable (event.Turn n) k = subst IsName (sym (name_again t.rows more n k)) k.is_name

  said_is : (ev : StepEvent) (k : IsKnownStep t.rows ev) → said_step (lines_in t.rows ++ more) ev ≡ statement_of t.rows ev k
  said_is (event.Do n) k = ap (λ name. say.Do name) (name_again t.rows more n k)
  said_is (event.Take reader sender) k = ap₂ (λ (a b : List ℕ). say.Take a b) (name_again t.rows more reader k.0) (name_again t.rows more sender k.1)
  said_is (event.Turn n) k = ap (λ name. say.Turn name) (name_again t.rows more n k)

  allowed : (ev : StepEvent) (k : IsKnownStep t.rows ev) → refusal mode.Step t (statement_of t.rows ev k) ≡ None
  allowed (event.Do n) k = ap₂ (λ (u p : Bool). cond (u || false) (Some E08) (cond p (Some E19) None)) (found t.rows n k) room
  allowed (event.Take reader sender) k =
      ap₂ (λ (u p : Bool). cond u (Some E08) (cond p (Some E19) None)) (ap₂ (λ (a b : Bool). a || (b || false)) (found t.rows reader k.0) (found t.rows sender k.1)) room
  allowed (event.Turn n) k = ap₂ (λ (u p : Bool). cond (u || false) (Some E08) (cond p (Some E19) None)) (found t.rows n k) room

  event_is : (ev : StepEvent) (k : IsKnownStep t.rows ev) (n : ℕ) → map (λ (x : StepLine). x.event) (steps t.rows n (statement_of t.rows ev k)) ≡ ev ∷ []
  event_is (event.Do n) k at = ap (λ i. event.Do i ∷ []) (number_again t.rows n k)
  event_is (event.Take reader sender) k at = ap₂ (λ (i j : ℕ). event.Take i j ∷ []) (number_again t.rows reader k.0) (number_again t.rows sender k.1)
  event_is (event.Turn n) k at = ap (λ i. event.Turn i ∷ []) (number_again t.rows n k)

-- ---- all step lines of a leg

-- the second state is the first with these events behind the step lines of the open leg
pub record Stepped (t after : State) (more : List StepEvent) : Type 0 where
  pub rows : after.rows ≡ t.rows
  pub before : after.before ≡ t.before
  pub ended : after.ended ≡ t.ended
  pub services : after.open_leg.services ≡ t.open_leg.services
  pub changes : after.open_leg.changes ≡ t.open_leg.changes
  pub events : map (λ (x : StepLine). x.event) after.open_leg.steps ≡ map (λ (x : StepLine). x.event) t.open_leg.steps ++ more

stepped_trans : (t u v : State) (xs ys : List StepEvent) → Stepped t u xs → Stepped u v ys → Stepped t v (xs ++ ys)
stepped_trans t u v xs ys a b = record {
  rows = b.rows ∙ a.rows;
  before = b.before ∙ a.before;
  ended = b.ended ∙ a.ended;
  services = b.services ∙ a.services;
  changes = b.changes ∙ a.changes;
  events = b.events ∙ ap (λ es. es ++ ys) a.events ∙ append_assoc _ xs ys;
}

events_more : (t : State) (more : List ServiceLine) (room : nat_le 1000 (t.before + length t.ended) ≡ false) (ev : StepEvent) (k : IsKnownStep t.rows ev)
    → map (λ (x : StepLine). x.event) (t.open_leg.steps ++ steps t.rows (t.lines + 1) (statement_of t.rows ev k)) ≡ map (λ (x : StepLine). x.event) t.open_leg.steps ++ ev ∷ []
events_more t more room ev k =
    map-append (λ (x : StepLine). x.event) t.open_leg.steps (steps t.rows (t.lines + 1) (statement_of t.rows ev k))
    ∙ ap (λ es. map (λ (x : StepLine). x.event) t.open_leg.steps ++ es) (event_is t more room ev k (t.lines + 1))

after_one : (t : State) (room : nat_le 1000 (t.before + length t.ended) ≡ false) (ev : StepEvent) (k : IsKnownStep t.rows ev) → Stepped t (next t (statement_of t.rows ev k)) (ev ∷ [])
after_one t room (event.Do n) k = record { rows = append-nil t.rows; before = refl; ended = refl; services = append-nil t.open_leg.services; changes = append-nil t.open_leg.changes; events = events_more t [] room (event.Do n) k }
after_one t room (event.Take reader sender) k = record { rows = append-nil t.rows; before = refl; ended = refl; services = append-nil t.open_leg.services; changes = append-nil t.open_leg.changes; events = events_more t [] room (event.Take reader sender) k }
after_one t room (event.Turn n) k = record { rows = append-nil t.rows; before = refl; ended = refl; services = append-nil t.open_leg.services; changes = append-nil t.open_leg.changes; events = events_more t [] room (event.Turn n) k }

accepted_one : (m : Mode) (t : State) (services more : List ServiceLine) → services ≡ lines_in t.rows ++ more → m ≡ mode.Step → nat_le 1000 (t.before + length t.ended) ≡ false → (ev : StepEvent) (k : IsKnownStep t.rows ev)
    → length (step_text services ev) ≤ 4096 → AcceptsLine m t (step_text services ev) (statement_of t.rows ev k) × HasNoEnd (step_text services ev)
accepted_one m t services more e em room ev k short =
    let all = lines_in t.rows ++ more in
    let p = step_line all ev (sayable t more room ev k) (subst (λ sv. length (step_text sv ev) ≤ 4096) e short) in
    let q = subst (IsLine (step_text all ev)) (said_is t more room ev k) p.0 in (
      record {
        reads = subst (λ sv. IsLine (step_text sv ev) (statement_of t.rows ev k)) (sym e) q;
        fits = ap (λ k'. refusal k' t (statement_of t.rows ev k)) em ∙ allowed t more room ev k;
      },
      subst (λ sv. HasNoEnd (step_text sv ev)) (sym e) p.1,
    )

-- the lines of step lines
abbrev pub step_lines : List ServiceLine → List StepLine → List (List ℕ)
step_lines services xs = map (λ x. step_text services x.event) xs

-- where the step lines lead
pub record Ran (m : Mode) (services : List ServiceLine) (t : State) (xs : List StepLine) : Type 0 where
  pub after : State
  pub stepped : Stepped t after (map (λ (x : StepLine). x.event) xs)
  pub reads : (rest : List (List ℕ)) (last : State) → AreShort (step_lines services xs) → Reads m after rest last → Reads m t (step_lines services xs ++ rest) last
  pub no_end : AreShort (step_lines services xs) → HaveNoEnd (step_lines services xs)

pub run : (m : Mode) (services more : List ServiceLine) (t : State) (xs : List StepLine) → services ≡ lines_in t.rows ++ more → nat_le 1000 (t.before + length t.ended) ≡ false → AreKnown m t.rows xs → Ran m services t xs
run m services more t [] e room k = record {
  after = t;
  stepped = record { rows = refl; before = refl; ended = refl; services = refl; changes = refl; events = sym (append-nil _) };
  reads = λ rest last short r. r;
  no_end = λ short. tt;
}
run m services more t (x ∷ xs) e room k =
    let one = after_one t room x.event k.1 in
    let t1 : State = next t (statement_of t.rows x.event k.1) in
    let same : lines_in t1.rows ≡ lines_in t.rows = ap lines_in one.rows in
    let room1 : nat_le 1000 (t1.before + length t1.ended) ≡ false = ap₂ (λ (b : ℕ) (es : List Leg). nat_le 1000 (b + length es)) one.before one.ended ∙ room in
    let others = run m services more t1 xs (e ∙ ap (λ ls. ls ++ more) (sym same)) room1 (are_known_grows m t.rows t1.rows [] xs (same ∙ sym (append-nil (lines_in t.rows))) k.2) in
    record {
      after = others.after;
      stepped = stepped_trans t t1 others.after (x.event ∷ []) (map (λ (y : StepLine). y.event) xs) one others.stepped;
      reads = λ rest last short r. one_more (accepted_one m t services more e k.0 room x.event k.1 short.0).0 (others.reads rest last short.1 r);
      no_end = λ short. ((accepted_one m t services more e k.0 room x.event k.1 short.0).1, others.no_end short.1);
    }
