-- The legs of an accepted document can be taken.
use Rattle.std.proofs.Common.{◌≡◌, ◌≢◌, ℕ, ◌+◌, ◌<◌, ◌≤◌, Bool, true, false, List, [], ◌∷◌, ◌++◌, length, length-append, Option, Some, None, refl, sym, ap, subst, ◌∙◌, arith, append_assoc}
use Rattle.std.specs.Prelude.{map, drop, position, is_some, slice_index_or, ◌&&◌, ◌||◌, nat_lt, nat_le, All, if◌then◌else◌}
use Rattle.std.specs.List.{list_any}
use Rattle.std.specs.Str.{bytes_eq}
use Rattle.std.proofs.lemmas.Bool.{leb-false, ltb-false}
use Rattle.std.proofs.lemmas.List.{append-nil}
use Rattle.std.proofs.lemmas.List.Elements.{All-append, All-cons, All-nil}
use Rattle.svc_graph.proofs.AreDistinct.{or_left, or_right}
use Rattle.svc_graph.specs.History.{Row, names_in, find_service}
use Rattle.svc_token.specs.Word.{IsName}
use Rattle.svc_plan.specs.declared.plan.Leg.{Leg}
use Rattle.svc_plan.specs.declared.plan.Mode.{Mode}
use Rattle.svc_plan.specs.declared.plan.PlanChange.{PlanChange}
use Rattle.svc_plan.specs.declared.plan.ServiceLine.{ServiceLine}
use Rattle.svc_plan.specs.declared.plan.StepEvent.{StepEvent}
use Rattle.svc_plan.specs.declared.plan.StepEvent.TheVariants as event
use Rattle.svc_plan.specs.declared.plan.StepLine.{StepLine}
use Rattle.svc_plan.specs.Rows.{row_of, with_services, with_changes, rows_after_all, IsAmong, IsServiceAfter, AreServicesAfter, AreAcceptedAfter, IsLegAfter, AreLegsAfter}
use Rattle.svc_plan.proofs.LegLemmas.{services-append, with_services-append, rows_after_all-last, legs-last, names_in-with_changes, length-with_changes}
use Rattle.svc_plan.specs.Rows.{EachBorn}
use Rattle.svc_plan.proofs.RowLemmas.{each_born, born-drop}
use Rattle.document_reading.specs.declared.statement.Body.TheVariants.{Formula, TooLarge}
use Rattle.document_reading.specs.declared.statement.Statement.{Statement}
use Rattle.document_reading.specs.declared.statement.Statement.TheVariants.{Silence, Input, Derived, Set, Add, Drop, Define, Settle, Do, Take, Turn}
use Rattle.document_reading.specs.Document.{lines_of, Reads, ends, line}
use Rattle.document_reading.specs.Refusals.{is_past_legs, is_unknown}
use Rattle.document_reading.specs.Refusals as refusals
use Rattle.document_reading.specs.Sound.{IsStart, IsSound}
use Rattle.document_reading.specs.State.{State, start, next, leg_said, declares, changes, steps, legs_in}
use Rattle.document_reading.proofs.FitLemmas.{Fits, fits_of, changes_accepted}
use Rattle.document_reading.proofs.NumberLemmas.{named}
use Rattle.document_reading.proofs.MoreLemmas.{accepted-more, with_changes-more, with_changes-append, accepted-append}
use Rattle.document_reading.proofs.ProperLemmas.{DeclaresName, said_proper, said_named}
use Rattle.document_reading.proofs.ReadingLemmas.{reads-last}
use Rattle.document_reading.proofs.SoundLemmas.{size, size-append, size_lines, born_reads, sound_here}

-- ---- step lines

-- the services that these step lines name are among so many
abbrev AreAmong : ℕ → List StepLine → Type 0
AreAmong count asked = All (λ step. IsAmong count step.event) asked

no_steps : (count : ℕ) → AreAmong count []
no_steps count = All-nil (λ step. IsAmong count step.event)

one_step : (count : ℕ) (step : StepLine) → IsAmong count step.event → AreAmong count (step ∷ [])
one_step count step is = All-cons (λ step. IsAmong count step.event) step [] is (no_steps count)

more_services : (few many : ℕ) (asked : StepEvent) → few ≤ many → IsAmong few asked → IsAmong many asked
more_services few many (event.Do n) more is = omega (arith, more, is)
more_services few many (event.Take n p) more is = (omega (arith, more, is.0), omega (arith, more, is.1))
more_services few many (event.Turn n) more is = omega (arith, more, is)

among_more : (few many : ℕ) (asked : List StepLine) → few ≤ many → AreAmong few asked → AreAmong many asked
among_more few many asked more are k d less = more_services few many (slice_index_or asked k d).event more (are k d less)

-- a step line whose names are declared
steps_among : (rows : List Row) (number : ℕ) (statement : Statement) → list_any (is_unknown rows) (refusals.names_in statement) ≡ false → AreAmong (length rows) (steps rows number statement)
steps_among rows number (Do name) known = one_step (length rows) _ (named rows name (or_left (is_unknown rows name) false known)).within
steps_among rows number (Take reader sender) known =
    let rest = or_right (is_unknown rows reader) (list_any (is_unknown rows) (sender ∷ [])) known in
    one_step (length rows) _
    ((named rows reader (or_left (is_unknown rows reader) (list_any (is_unknown rows) (sender ∷ [])) known)).within, (named rows sender (or_left (is_unknown rows sender) false rest)).within)
steps_among rows number (Turn name) known = one_step (length rows) _ (named rows name (or_left (is_unknown rows name) false known)).within
steps_among rows number statement known = no_steps (length rows)

-- ---- the rows of a state

-- those of the ended legs, and those with the services of the open leg
abbrev base : List Row → State → List Row
base rows s = rows_after_all rows s.ended

abbrev opened : List Row → State → List Row
opened rows s = with_services (base rows s) s.open_leg.services

-- all that the legs of a state so far need to be taken
pub record Stands (rows : List Row) (before : ℕ) (s : State) : Type 0 where
  pub ended : AreLegsAfter rows s.ended
  pub services : AreServicesAfter (base rows s) s.open_leg.services
  pub accepted : AreAcceptedAfter (opened rows s) s.open_leg.changes
  pub few : length s.open_leg.changes ≤ 1024
  pub now : with_changes (opened rows s) s.open_leg.changes ≡ s.rows
  pub steps : AreAmong (length s.rows) s.open_leg.steps
  pub before_is : s.before ≡ before
  pub few_legs : before + length s.ended ≤ 1000
  pub more_legs : s.is_open ≡ true → before + length s.ended < 1000

at_start : (rows : List Row) (before : ℕ) → before ≤ 1000 → Stands rows before (start rows before)
at_start rows before h = record {
  ended = tt;
  services = tt;
  accepted = tt;
  few = omega arith;
  now = append-nil rows;
  steps = no_steps (length rows);
  before_is = refl;
  few_legs = omega (arith, h);
  more_legs = λ is. absurd (cc);
}

-- ---- what stands where a statement is not refused

-- at most one service, which can be declared
service_after : (rows there : List Row) (l : ServiceLine) → names_in there ≡ names_in rows → length there ≡ length rows → IsName l.name
    → is_some (find_service rows l.name) ≡ false → nat_le 64 (length rows) ≡ false → l.rank ≤ 1000 → IsServiceAfter there l
service_after rows there l same long name new room rank = record {
  name = name;
  new = ap (position (bytes_eq l.name)) same ∙ none_of (find_service rows l.name) new;
  room = let k = leb-false 64 (length rows) room in omega (arith, long, k);
  rank = rank;
}
  where
    none_of : {A : Type 0} (o : Option A) → is_some o ≡ false → o ≡ None
    none_of None h = refl
    none_of (Some x) h = absurd (cc)

most_rank : (rank : ℕ) → (nat_lt rank 1 || nat_lt 1000 rank) ≡ false → rank ≤ 1000
most_rank rank h = ltb-false 1000 rank (or_right (nat_lt rank 1) (nat_lt 1000 rank) h)

declared_after : (mode : Mode) (s : State) (there : List Row) (statement : Statement) → names_in there ≡ names_in s.rows → length there ≡ length s.rows
    → DeclaresName statement → Fits mode s statement → AreServicesAfter there (declares statement)
declared_after mode s there (Input name ty value) same long named f =
    (service_after s.rows there (record { name = name; rank = 0; ty = ty }) same long named (or_left (is_some (find_service s.rows name)) false f.new) f.room (omega arith), tt)
declared_after mode s there (Derived name ty rank body) same long named f =
    (service_after s.rows there (record { name = name; rank = rank; ty = ty }) same long named (or_left (is_some (find_service s.rows name)) false f.new) f.room (most_rank rank f.rank), tt)
declared_after mode s there statement same long named f = tt

one_change : (rows : List Row) (statement : Statement) → length (changes rows statement) ≤ 1
one_change rows (Input name ty value) = omega arith
one_change rows (Derived name ty rank (Formula formula)) = omega arith
one_change rows (Derived name ty rank TooLarge) = omega arith
one_change rows (Set name value) = omega arith
one_change rows (Add reader member) = omega arith
one_change rows (Drop reader member) = omega arith
one_change rows (Define name (Formula formula)) = omega arith
one_change rows (Define name TooLarge) = omega arith
one_change rows statement = omega arith

room_for : (services count : ℕ) (cs : List PlanChange) → length cs ≤ 1 → count ≤ 1024 → (nat_lt 0 (services + length cs) && nat_le 1024 count) ≡ false → count + length cs ≤ 1024
room_for services count [] one most h = omega (arith, most)
room_for services count (c ∷ cs) one most h = by (nat_lt 0 (services + length (c ∷ cs))) (nat_le 1024 count) refl refl h
  where
    by : (a b : Bool) → nat_lt 0 (services + length (c ∷ cs)) ≡ a → nat_le 1024 count ≡ b → (a && b) ≡ false → count + length (c ∷ cs) ≤ 1024
    by false b e f k = let z = ltb-false 0 (services + length (c ∷ cs)) e in absurd (omega (arith, z))
    by true true e f k = absurd (cc)
    by true false e f k = let l = leb-false 1024 count f in omega (arith, l, one)

all_born : (rs : List Row) → EachBorn rs → All (λ row. row.history ≢ []) rs
all_born [] b = All-nil (λ row. row.history ≢ [])
all_born (row ∷ rs) b = All-cons (λ row. row.history ≢ []) row rs b.0 (all_born rs b.1)

-- ---- a statement more

module _ (rows : List Row) (before : ℕ) (s : State) (h : Stands rows before s) where
  same_names : names_in (opened rows s) ≡ names_in s.rows
  same_names = sym (names_in-with_changes (opened rows s) s.open_leg.changes) ∙ ap names_in h.now

  same_length : length (opened rows s) ≡ length s.rows
  same_length = sym (length-with_changes (opened rows s) s.open_leg.changes) ∙ ap length h.now

  -- services and changes more, in a leg that goes on
  with_more : (lines : List ServiceLine) (cs : List PlanChange) (asked : List StepLine) (last : State) → AreServicesAfter (opened rows s) lines
      → AreAcceptedAfter (with_services s.rows lines) cs → AreAmong (length s.rows) asked
      → length s.open_leg.changes + length cs ≤ 1024 → before + length s.ended < 1000 → last.ended ≡ s.ended → last.before ≡ s.before
      → last.open_leg.services ≡ s.open_leg.services ++ lines → last.open_leg.changes ≡ s.open_leg.changes ++ cs
      → last.open_leg.steps ≡ s.open_leg.steps ++ asked → last.rows ≡ with_changes (with_services s.rows lines) cs → Stands rows before last
  with_more lines cs asked last l k named few legs ended_is before_is services_are changes_are steps_are rows_are = record {
    ended = subst (AreLegsAfter rows) (sym ended_is) h.ended;
    services = subst (λ (legs : List Leg). AreServicesAfter (rows_after_all rows legs) last.open_leg.services) (sym ended_is)
        (subst (AreServicesAfter (base rows s)) (sym services_are) (services-append (base rows s) s.open_leg.services lines h.services l));
    accepted = subst (λ (rs : List Row). AreAcceptedAfter rs last.open_leg.changes) (sym opened_is)
        (subst (AreAcceptedAfter (with_services (opened rows s) lines)) (sym changes_are)
        (accepted-append (with_services (opened rows s) lines) s.open_leg.changes cs (accepted-more (opened rows s) (map row_of lines) s.open_leg.changes h.accepted)
        (subst (λ (rs : List Row). AreAcceptedAfter rs cs) (sym behind) k)));
    few = subst (λ (c : List PlanChange). length c ≤ 1024) (sym changes_are) (omega (arith, length-append s.open_leg.changes cs, few));
    now = (λ i. with_changes (opened_is i) (changes_are i)) ∙ with_changes-append (with_services (opened rows s) lines) s.open_leg.changes cs
        ∙ ap (λ (rs : List Row). with_changes rs cs) behind ∙ sym rows_are;
    steps = subst (AreAmong (length last.rows)) (sym steps_are)
        (All-append (λ step. IsAmong (length last.rows) step.event) s.open_leg.steps asked (among_more (length s.rows) (length last.rows) s.open_leg.steps grown h.steps)
        (among_more (length s.rows) (length last.rows) asked grown named));
    before_is = before_is ∙ h.before_is;
    few_legs = let e = ap length ended_is in omega (arith, e, legs);
    more_legs = λ is. let e = ap length ended_is in omega (arith, e, legs);
  }
    where
      grown : length s.rows ≤ length last.rows
      grown =
          let same = ap length rows_are in
          let counted = length-with_changes (with_services s.rows lines) cs in
          let longer = length-append s.rows (map row_of lines) in
          omega (arith, same, counted, longer)

      opened_is : opened rows last ≡ with_services (opened rows s) lines
      opened_is = (λ i. with_services (rows_after_all rows (ended_is i)) (services_are i)) ∙ with_services-append (base rows s) s.open_leg.services lines

      behind : with_changes (with_services (opened rows s) lines) s.open_leg.changes ≡ with_services s.rows lines
      behind = with_changes-more (opened rows s) (map row_of lines) s.open_leg.changes h.accepted ∙ ap (λ (rs : List Row). with_services rs lines) h.now

  ends_leg : EachBorn s.rows → IsLegAfter (base rows s) s.open_leg
  ends_leg born = record {
    services = h.services;
    accepted = h.accepted;
    few = h.few;
    born = all_born _ (subst (λ (rs : List Row). EachBorn (drop (length (base rows s)) rs)) (sym h.now) (born-drop (length (base rows s)) s.rows born));
    steps = subst (λ (rs : List Row). AreAmong (length rs) s.open_leg.steps) (sym h.now) h.steps;
  }

  with_settle : EachBorn s.rows → before + length s.ended < 1000 → Stands rows before (next s Settle)
  with_settle born legs = record {
    ended = legs-last rows s.ended s.open_leg h.ended (ends_leg born);
    services = tt;
    accepted = tt;
    few = omega arith;
    now = append-nil (rows_after_all rows (s.ended ++ s.open_leg ∷ [])) ∙ rows_after_all-last rows s.ended s.open_leg ∙ h.now;
    steps = no_steps (length s.rows);
    before_is = h.before_is;
    few_legs = omega (arith, length-append s.ended (s.open_leg ∷ []), legs);
    more_legs = λ is. absurd (cc);
  }

  legs_left : (mode : Mode) (statement : Statement) → is_past_legs s statement ≡ nat_le 1000 (s.before + length s.ended) → Fits mode s statement → before + length s.ended < 1000
  legs_left mode statement e f = let k = leb-false 1000 (s.before + length s.ended) (sym e ∙ f.legs) in let b = h.before_is in omega (arith, k, b)

  with_said : (mode : Mode) (statement : Statement) (last : State) → IsSound s → DeclaresName statement → AreAcceptedAfter (with_services s.rows (declares statement)) (changes s.rows statement)
      → Fits mode s statement → is_past_legs s statement ≡ nat_le 1000 (s.before + length s.ended)
      → last ≡ record s { lines = s.lines + 1; rows = with_changes (with_services s.rows (declares statement)) (changes s.rows statement); open_leg = leg_said s statement; is_open = true }
      → Stands rows before last
  with_said mode statement last sound named k f e is =
      with_more (declares statement) (changes s.rows statement) (steps s.rows (s.lines + 1) statement) last
      (declared_after mode s (opened rows s) statement same_names same_length named f) k (steps_among s.rows (s.lines + 1) statement f.known)
      (room_for (length (declares statement)) (length s.open_leg.changes) (changes s.rows statement) (one_change s.rows statement) h.few f.changes)
      (legs_left mode statement e f) (ap (λ (t : State). t.ended) is) (ap (λ (t : State). t.before) is) (ap (λ (t : State). t.open_leg.services) is) (ap (λ (t : State). t.open_leg.changes) is)
      (ap (λ (t : State). t.open_leg.steps) is) (ap (λ (t : State). t.rows) is)

stands_next : (rows : List Row) (before : ℕ) (mode : Mode) (s : State) (statement : Statement) → Stands rows before s → IsSound s → DeclaresName statement
    → AreAcceptedAfter (with_services s.rows (declares statement)) (changes s.rows statement) → Fits mode s statement → Stands rows before (next s statement)
stands_next rows before mode s Silence h sound named k f = record {
  ended = h.ended;
  services = h.services;
  accepted = h.accepted;
  few = h.few;
  now = h.now;
  steps = h.steps;
  before_is = h.before_is;
  few_legs = h.few_legs;
  more_legs = h.more_legs;
}
stands_next rows before mode s Settle h sound named k f = with_settle rows before s h (each_born s.rows sound.born) (legs_left rows before s h mode Settle refl f)
stands_next rows before mode s statement h sound named k f = with_said rows before s h mode statement (next s statement) sound named k f refl refl

-- ---- the law

stands_reads : {rows : List Row} {before : ℕ} {mode : Mode} {first s last : State} {front rest : List (List ℕ)} → IsStart first → Reads mode first front s → Reads mode s rest last
    → size (front ++ rest) ≤ 1048577 → Stands rows before s → Stands rows before last
stands_reads i r ends short h = h
stands_reads {rows = rows} {before = before} {mode = mode} {first = first} {s = s} {front = front} i r (line {first = l} {lines = lines} {statement = statement} a q) short h =
    let whole : size (front ++ l ∷ lines) ≡ size front + (length l + 1 + size lines) = size-append front (l ∷ lines) in
    let sound = sound_here i r (omega (arith, whole, short)) in
    stands_reads i (reads-last r a) q (subst (λ (ls : List (List ℕ)). size ls ≤ 1048577) (sym (append_assoc front (l ∷ []) lines)) short)
    (stands_next rows before mode s statement h sound (said_named a.reads.says) (changes_accepted mode s statement sound (said_proper a.reads.says) a.fits) (fits_of mode s statement a.fits))

legs_taken_at : (rows : List Row) (before : ℕ) (s : State) → Stands rows before s → EachBorn s.rows → (t : Bool) → s.is_open ≡ t
    → AreLegsAfter rows (if t then s.ended ++ s.open_leg ∷ [] else s.ended) × (before + length (if t then s.ended ++ s.open_leg ∷ [] else s.ended) ≤ 1000)
legs_taken_at rows before s h born true e =
    (legs-last rows s.ended s.open_leg h.ended (ends_leg rows before s h born), let l = h.more_legs e in omega (arith, length-append s.ended (s.open_leg ∷ []), l))
legs_taken_at rows before s h born false e = (h.ended, h.few_legs)

-- the legs of an accepted document can be taken one after the other, and are not too many
pub legs_taken : (mode : Mode) (first last : State) (bytes : List ℕ) → IsStart first → length bytes ≤ 1048576 → Reads mode first (lines_of bytes) last
    → AreLegsAfter first.rows (legs_in last) × (first.before + length (legs_in last) ≤ 1000)
legs_taken mode first last bytes i short r =
    let bound = size_lines bytes in
    let begun : Stands first.rows first.before first = subst (Stands first.rows first.before) (sym i.begins) (at_start first.rows first.before i.legs) in
    legs_taken_at first.rows first.before last (stands_reads {front = []} i ends r (omega (arith, bound, short)) begun) (born_reads r (each_born first.rows i.born)) last.is_open refl
