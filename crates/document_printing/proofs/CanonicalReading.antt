-- The canonical document of an accepted document is accepted, and says the same.
use Rattle.std.proofs.Common.{◌≡◌, ℕ, ◌+◌, ◌≤◌, Bool, true, false, List, [], ◌∷◌, ◌++◌, length, map, flat_map, None, refl, sym, ap, ap₂, subst, ◌∙◌, append-nil, append_assoc}
use Rattle.std.specs.Prelude.{nat_le, nat_lt, if◌then◌else◌}
use Rattle.std.proofs.lemmas.List.{map-append}
use Rattle.std.proofs.lemmas.Grind.{flat_map-append}
use Rattle.svc_graph.proofs.AreDistinct.{or_left, or_right}
use Rattle.svc_graph.specs.History.{Row}
use Rattle.svc_plan.specs.declared.plan.Leg.{Leg}
use Rattle.svc_plan.specs.declared.plan.Mode.{Mode}
use Rattle.svc_plan.specs.declared.plan.Mode.TheVariants as mode
use Rattle.svc_plan.specs.declared.plan.PlanChange.{PlanChange}
use Rattle.svc_plan.specs.declared.plan.ServiceLine.{ServiceLine}
use Rattle.svc_plan.specs.Rows.{with_services, with_changes}
use Rattle.document_reading.specs.declared.statement.Statement.{Statement}
use Rattle.document_reading.specs.declared.statement.Statement.TheVariants.{Silence, Input, Derived, Set, Add, Drop, Define, Settle, Do, Take, Turn}
use Rattle.document_reading.specs.Document.{lines_of, AcceptsLine, Reads, line as one_more, ends, HasLegs}
use Rattle.document_reading.specs.Grammar.{Says}
use Rattle.document_reading.specs.Refusals.{refusal, is_out_of_mode}
use Rattle.document_reading.specs.State.{State, declares, changes, steps, next, leg_said, start, empty_leg, legs_in}
use Rattle.document_printing.specs.Canonical.{services_of, leg_lines, with_line_ends, canonical_text}
use Rattle.document_printing.proofs.CanonicalAgain.{Follows, alike, Kept, Again, change_lines, leg_more, finish, at_end, short_front, short_behind, have-append}
use Rattle.document_printing.specs.Canonical.{said_by}
use Rattle.document_printing.proofs.CanonicalChanges.{CanBeSaid, IsChange, IsSaidAgain, said_again}
use Rattle.document_printing.proofs.CanonicalLines.{lines_again}
use Rattle.document_printing.proofs.CanonicalNames.{lines_in, lines-next, known_in}
use Rattle.document_printing.proofs.CanonicalStates.{fits, refusal_alike}
use Rattle.document_printing.proofs.CanonicalSteps.{AreKnown, are_known_grows, are_known-append}
use Rattle.document_printing.specs.Canonical.{AreShort}

-- ---- one statement more

-- the state after a statement that says something and is no settle
loud : State → Statement → State
loud s st = record s {
  lines = s.lines + 1;
  rows = with_changes (with_services s.rows (declares st)) (changes s.rows st);
  open_leg = leg_said s st;
  is_open = true;
}

both_follow : (s t : State) (st : Statement) → Follows s t → steps t.rows (t.lines + 1) st ≡ [] → Follows (loud s st) (loud t st)
unfolding loud
both_follow s t st f none = record {
  rows = ap (λ rows. with_changes (with_services rows (declares st)) (changes rows st)) f.rows;
  before = f.before;
  ended = f.ended;
  services = ap (λ ls. ls ++ declares st) f.services;
  changes = ap₂ (λ (cs : List PlanChange) (rows : List Row). cs ++ changes rows st) f.changes f.rows;
  steps = ap (λ xs. xs ++ steps t.rows (t.lines + 1) st) f.steps ∙ none;
  closed = λ h. absurd (cc h);
}

loud_kept : (m : Mode) (s : State) (st : Statement) → Kept m s → nat_le 1000 (s.before + length s.ended) ≡ false → AreKnown m (loud s st).rows (steps s.rows (s.lines + 1) st) → Kept m (loud s st)
unfolding loud
loud_kept m s st k room new = record {
  known = are_known-append m (loud s st).rows s.open_leg.steps (steps s.rows (s.lines + 1) st)
      (are_known_grows m s.rows (loud s st).rows (declares st) s.open_leg.steps (lines-next s.rows (declares st) (changes s.rows st)) k.known) new;
  room = λ h. room;
  empty = λ h. absurd (cc h);
}

-- what is still to come after a statement leads there
abbrev Later : Mode → List ServiceLine → State → State → Type 0
Later m services s last = (t : State) → Follows s t → Kept m s → Again m services s t last

module _ (m : Mode) (services more : List ServiceLine) (s t last : State) (f : Follows s t) (k : Kept m s) where
  change_more : (st : Statement) → IsChange st → services ≡ lines_in s.rows ++ (declares st ++ more) → refusal m s st ≡ None → CanBeSaid st → steps t.rows (t.lines + 1) st ≡ []
      → Again m services (loud s st) (loud t st) last → ((text : List ℕ) (lines : List (List ℕ)) (after : State) → AcceptsLine m t text st → Reads m (loud t st) lines after → Reads m t (text ∷ lines) after)
      → Again m services s t last
  unfolding loud
  change_more st is e fit can none a on =
      let again = subst (λ sv. IsSaidAgain sv s.rows st) (sym e) (said_again m s more st is (fits m s st fit) can) in
      let front = flat_map (leg_lines services) s.ended in
      let grown : change_lines services (s.open_leg.changes ++ changes s.rows st) ≡ change_lines services s.open_leg.changes ++ again.text ∷ [] =
      map-append _ s.open_leg.changes (changes s.rows st) ∙ ap (λ ls. change_lines services s.open_leg.changes ++ ls) again.alone in
      record {
        lines = again.text ∷ a.lines;
        after = a.after;
        text = a.text ∙ ap (λ ls. (front ++ ls) ++ a.lines) grown ∙ simp append_assoc;
        reads = λ short. on again.text a.lines a.after (record { reads = (again.line short.0).0; fits = refusal_alike m s t (alike s t f) st ∙ fit }) (a.reads short.1);
        no_end = λ short. ((again.line short.0).1, a.no_end short.1);
        legs = a.legs;
      }

  change_kept : (st : Statement) → nat_le 1000 (s.before + length s.ended) ≡ false → steps s.rows (s.lines + 1) st ≡ [] → Kept m (loud s st)
  change_kept st room none = loud_kept m s st k room (subst (AreKnown m (loud s st).rows) (sym none) tt)

  -- a step line, which comes later
  step_more : (st : Statement) → declares st ≡ [] → changes s.rows st ≡ [] → ((f' : Follows (loud s st) t) → Again m services (loud s st) t last) → Again m services s t last
  unfolding loud
  step_more st none still a =
      let rows : with_changes (with_services s.rows (declares st)) (changes s.rows st) ≡ s.rows =
      ap₂ (λ (ls : List ServiceLine) (cs : List PlanChange). with_changes (with_services s.rows ls) cs) none still ∙ append-nil s.rows in
      let there = a (record {
        rows = f.rows ∙ sym rows;
        before = f.before;
        ended = f.ended;
        services = f.services ∙ sym (ap (λ ls. s.open_leg.services ++ ls) none ∙ append-nil _);
        changes = f.changes ∙ sym (ap (λ cs. s.open_leg.changes ++ cs) still ∙ append-nil _);
        steps = f.steps;
        closed = λ h. absurd (cc h);
      }) in
      record {
        lines = there.lines;
        after = there.after;
        text = there.text ∙ ap (λ cs. (flat_map (leg_lines services) s.ended ++ change_lines services cs) ++ there.lines) (ap (λ cs. s.open_leg.changes ++ cs) still ∙ append-nil _);
        reads = there.reads;
        no_end = there.no_end;
        legs = there.legs;
      }

  one_change : (st : Statement) → IsChange st → services ≡ lines_in s.rows ++ (declares st ++ more) → refusal m s st ≡ None → CanBeSaid st → steps t.rows (t.lines + 1) st ≡ []
      → steps s.rows (s.lines + 1) st ≡ [] → nat_le 1000 (s.before + length s.ended) ≡ false → ((text : List ℕ) (lines : List (List ℕ)) (after : State) → AcceptsLine m t text st → Reads m (loud t st) lines after → Reads m t (text ∷ lines) after)
      → Later m services (loud s st) last → Again m services s t last
  one_change st is e fit can none here room on later =
      change_more st is e fit can none (later (loud t st) (both_follow s t st f none) (change_kept st room here)) on

mode_is : (m : Mode) (s : State) (st : Statement) → length (steps s.rows 0 st) ≡ 1 → is_out_of_mode m s st ≡ false → m ≡ mode.Step
mode_is mode.Plain s st one h = absurd (let never : true ≡ false = sym (ap (nat_lt 0) one) ∙ h in cc never)
mode_is mode.Step s st one h = refl

module _ (m : Mode) (services more : List ServiceLine) (s t last : State) (f : Follows s t) (k : Kept m s) where
  -- a statement more
  one : (st : Statement) → services ≡ lines_in s.rows ++ (declares st ++ more) → refusal m s st ≡ None → CanBeSaid st → Later m services (next s st) last → Again m services s t last
  unfolding loud
  one Silence e fit can later =
      let a = later t (record { rows = f.rows; before = f.before; ended = f.ended; services = f.services; changes = f.changes; steps = f.steps; closed = f.closed })
      (record { known = k.known; room = k.room; empty = k.empty }) in
      record { lines = a.lines; after = a.after; text = a.text; reads = a.reads; no_end = a.no_end; legs = a.legs }
  one Settle e fit can later =
      let fin = finish m services more s t e f k.known (fits m s Settle fit).legs in
      let a = later fin.after fin.follows (record { known = tt; room = λ h. absurd (cc h); empty = λ h. refl }) in
      record {
        lines = _;
        after = a.after;
        text = a.text ∙ leg_more services s.ended s.open_leg a.lines;
        reads = λ short. fin.reads a.lines a.after (short_front _ a.lines short) (a.reads (short_behind _ a.lines short));
        no_end = λ short. have-append _ a.lines (fin.no_end (short_front _ a.lines short)) (a.no_end (short_behind _ a.lines short));
        legs = a.legs;
      }
  one (Input name ty value) e fit can later = one_change m services more s t last f k (Input name ty value) tt e fit can refl refl (fits m s (Input name ty value) fit).legs (λ text lines after a r. one_more a r) later
  one (Derived name ty rank body) e fit can later = one_change m services more s t last f k (Derived name ty rank body) tt e fit can refl refl (fits m s (Derived name ty rank body) fit).legs (λ text lines after a r. one_more a r) later
  one (Set name value) e fit can later = one_change m services more s t last f k (Set name value) tt e fit can refl refl (fits m s (Set name value) fit).legs (λ text lines after a r. one_more a r) later
  one (Add reader member) e fit can later = one_change m services more s t last f k (Add reader member) tt e fit can refl refl (fits m s (Add reader member) fit).legs (λ text lines after a r. one_more a r) later
  one (Drop reader member) e fit can later = one_change m services more s t last f k (Drop reader member) tt e fit can refl refl (fits m s (Drop reader member) fit).legs (λ text lines after a r. one_more a r) later
  one (Define name body) e fit can later = one_change m services more s t last f k (Define name body) tt e fit can refl refl (fits m s (Define name body) fit).legs (λ text lines after a r. one_more a r) later
  one (Do name) e fit can later =
      let st = Do name in
      let fit' = fits m s st fit in
      let known : AreKnown m s.rows (steps s.rows (s.lines + 1) st) = (mode_is m s st refl fit'.mode, record { name = name; is_name = can; known = known_in s.rows name (or_left _ _ fit'.names) }, tt) in
      step_more m services more s t last f k st refl refl (λ f'. later t f' (loud_kept m s st k fit'.legs (are_known_grows m s.rows _ [] (steps s.rows (s.lines + 1) st) (lines-next s.rows [] []) known)))
  one (Take reader sender) e fit can later =
      let st = Take reader sender in
      let fit' = fits m s st fit in
      let known : AreKnown m s.rows (steps s.rows (s.lines + 1) st) =
      (mode_is m s st refl fit'.mode, (record { name = reader; is_name = can.0; known = known_in s.rows reader (or_left _ _ fit'.names) }, record { name = sender; is_name = can.1; known = known_in s.rows sender (or_left _ _ (or_right _ _ fit'.names)) }), tt) in
      step_more m services more s t last f k st refl refl (λ f'. later t f' (loud_kept m s st k fit'.legs (are_known_grows m s.rows _ [] (steps s.rows (s.lines + 1) st) (lines-next s.rows [] []) known)))
  one (Turn name) e fit can later =
      let st = Turn name in
      let fit' = fits m s st fit in
      let known : AreKnown m s.rows (steps s.rows (s.lines + 1) st) = (mode_is m s st refl fit'.mode, record { name = name; is_name = can; known = known_in s.rows name (or_left _ _ fit'.names) }, tt) in
      step_more m services more s t last f k st refl refl (λ f'. later t f' (loud_kept m s st k fit'.legs (are_known_grows m s.rows _ [] (steps s.rows (s.lines + 1) st) (lines-next s.rows [] []) known)))

-- ---- all lines

lines_after : (s : State) (st : Statement) → lines_in (next s st).rows ≡ lines_in s.rows ++ declares st
lines_after s Silence = sym (append-nil (lines_in s.rows))
lines_after s Settle = sym (append-nil (lines_in s.rows))
lines_after s st = lines-next s.rows (declares st) (changes s.rows st)

grows : (m : Mode) (s last : State) (lines : List (List ℕ)) → Reads m s lines last → (more : List ServiceLine) × (lines_in last.rows ≡ lines_in s.rows ++ more)
grows m s _ [] ends = ([], sym (append-nil (lines_in s.rows)))
grows m s last (_ ∷ lines) (one_more {statement = st} a r) =
    let g = grows m (next s st) last lines r in
    (declares st ++ g.0, g.1 ∙ ap (λ ls. ls ++ g.0) (lines_after s st) ∙ append_assoc (lines_in s.rows) (declares st) g.0)

-- whatever a line says can be printed
module _ (m : Mode) (can_say : (text : List ℕ) (st : Statement) → Says text st → CanBeSaid st) where
  go : (services : List ServiceLine) (s last : State) (lines : List (List ℕ)) → Reads m s lines last → services ≡ lines_in last.rows → Later m services s last
  go services s _ [] ends e t f k = at_end m services [] s t (e ∙ sym (append-nil (lines_in s.rows))) f k
  go services s last (text ∷ lines) (one_more {statement = st} a r) e t f k =
      let g = grows m (next s st) last lines r in
      let all : services ≡ lines_in s.rows ++ (declares st ++ g.0) = e ∙ g.1 ∙ ap (λ ls. ls ++ g.0) (lines_after s st) ∙ append_assoc (lines_in s.rows) (declares st) g.0 in
      one m services g.0 s t last f k st all a.fits (can_say text st a.reads.says) (go services (next s st) last lines r e)

-- ---- the document

-- the services are those of the legs, and the open leg is empty where nothing is said
record HasServices (s : State) : Type 0 where
  services : lines_in s.rows ≡ services_of s.ended ++ s.open_leg.services
  empty : s.is_open ≡ false → s.open_leg ≡ empty_leg

services_loud : (s : State) (st : Statement) → HasServices s → HasServices (loud s st)
unfolding loud
services_loud s st h = record {
  services = lines-next s.rows (declares st) (changes s.rows st) ∙ ap (λ ls. ls ++ declares st) h.services ∙ append_assoc (services_of s.ended) s.open_leg.services (declares st);
  empty = λ e. absurd (cc e);
}

services_next : (s : State) (st : Statement) → HasServices s → HasServices (next s st)
unfolding loud
services_next s Silence h = record { services = h.services; empty = h.empty }
services_next s Settle h = record {
  services = h.services ∙ sym (append-nil _ ∙ flat_map-append (λ (leg : Leg). leg.services) s.ended (s.open_leg ∷ []) ∙ ap (λ ls. services_of s.ended ++ ls) (append-nil s.open_leg.services));
  empty = λ e. refl;
}
services_next s st h = services_loud s st h

services_last : (m : Mode) (s last : State) (lines : List (List ℕ)) → Reads m s lines last → HasServices s → HasServices last
services_last m s _ [] ends h = h
services_last m s last (_ ∷ lines) (one_more {statement = st} a r) h = services_last m (next s st) last lines r (services_next s st h)

services_are : (s : State) → HasServices s → services_of (legs_in s) ≡ lines_in s.rows
services_are s h = by s.is_open refl
  where
    by : (b : Bool) → s.is_open ≡ b → services_of (legs_in s) ≡ lines_in s.rows
    by true o =
        ap (λ (b : Bool). services_of (if b then s.ended ++ s.open_leg ∷ [] else s.ended)) o
        ∙ flat_map-append (λ (leg : Leg). leg.services) s.ended (s.open_leg ∷ []) ∙ ap (λ ls. services_of s.ended ++ ls) (append-nil s.open_leg.services) ∙ sym h.services
    by false o =
        ap (λ (b : Bool). services_of (if b then s.ended ++ s.open_leg ∷ [] else s.ended)) o
        ∙ sym (h.services ∙ ap (λ (l : Leg). services_of s.ended ++ l.services) (h.empty o) ∙ append-nil (services_of s.ended))

-- the canonical document of accepted legs is accepted where it and its lines are short enough, and says the same but for the
-- numbers of its lines
pub read_again : (m : Mode) → ((text : List ℕ) (st : Statement) → Says text st → CanBeSaid st) → (bytes : List ℕ) (legs : List Leg) → HasLegs m bytes legs
    → length (canonical_text legs) ≤ 1048576 → AreShort (flat_map (leg_lines (services_of legs)) legs) → (again : List Leg) × HasLegs m (canonical_text legs) again × (map said_by again ≡ map said_by legs)
read_again m can_say bytes legs h short lines =
    let last : State = h.0 in
    let first : State = start [] 0 in
    let services : services_of legs ≡ lines_in last.rows =
    ap services_of h.2 ∙ services_are last (services_last m first last (lines_of bytes) h.1.lines (record { services = refl; empty = λ e. refl })) in
    let a = go m can_say (services_of legs) first last (lines_of bytes) h.1.lines services first
    (record { rows = refl; before = refl; ended = refl; services = refl; changes = refl; steps = refl; closed = λ e. refl })
    (record { known = tt; room = λ e. absurd (cc e); empty = λ e. refl }) in
    let same : flat_map (leg_lines (services_of legs)) legs ≡ a.lines = ap (flat_map (leg_lines (services_of legs))) h.2 ∙ a.text in
    let are : AreShort a.lines = subst AreShort same lines in
    let found : lines_of (canonical_text legs) ≡ a.lines = ap (λ ls. lines_of (with_line_ends ls)) same ∙ lines_again a.lines (a.no_end are) in
    (legs_in a.after, (a.after, record { short = short; lines = subst (λ ls. Reads m first ls a.after) (sym found) (a.reads are) }, refl), a.legs ∙ sym (ap (map said_by) h.2))
