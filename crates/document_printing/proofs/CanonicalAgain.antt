-- The canonical lines of an accepted document are read again.
use Rattle.std.proofs.Common.{◌≡◌, ℕ, ◌+◌, Bool, true, false, List, [], ◌∷◌, ◌++◌, length, map, flat_map, Some, None, refl, sym, ap, ap₂, subst, ◌∙◌, append-nil, append_assoc, cond, codes}
use Rattle.std.specs.Prelude.{nat_le, if◌then◌else◌}
use Rattle.std.proofs.lemmas.List.{map-append, length-map}
use Rattle.std.proofs.lemmas.Grind.{flat_map-append}
use Rattle.svc_plan.specs.declared.plan.Leg.{Leg}
use Rattle.svc_plan.specs.declared.plan.Mode.{Mode}
use Rattle.svc_plan.specs.declared.plan.Mode.TheVariants as mode
use Rattle.svc_plan.specs.declared.plan.PlanChange.{PlanChange}
use Rattle.svc_plan.specs.declared.plan.ServiceLine.{ServiceLine}
use Rattle.svc_plan.specs.declared.plan.StepEvent.{StepEvent}
use Rattle.svc_plan.specs.declared.plan.StepLine.{StepLine}
use Rattle.document_reading.specs.declared.refusal.Code.TheVariants.{E19}
use Rattle.document_reading.specs.declared.statement.Statement.TheVariants as say
use Rattle.document_reading.specs.Document.{Reads, line as one_more, ends}
use Rattle.document_reading.specs.Refusals.{refusal}
use Rattle.document_reading.specs.State.{State, next, empty_leg, legs_in}
use Rattle.document_printing.specs.Canonical.{change_text, leg_lines}
use Rattle.document_printing.proofs.CanonicalLines.{HaveNoEnd, settle_line}
use Rattle.document_printing.proofs.CanonicalNames.{lines_in}
use Rattle.document_printing.proofs.CanonicalStates.{Alike}
use Rattle.document_printing.specs.Canonical.{said_by}
use Rattle.document_printing.proofs.CanonicalSteps.{AreKnown, step_lines, run}
use Rattle.document_printing.specs.Canonical.{AreShort}

-- the second state is the first without the step lines of the open leg
pub record Follows (s t : State) : Type 0 where
  pub rows : t.rows ≡ s.rows
  pub before : t.before ≡ s.before
  pub ended : map said_by t.ended ≡ map said_by s.ended
  pub services : t.open_leg.services ≡ s.open_leg.services
  pub changes : t.open_leg.changes ≡ s.open_leg.changes
  pub steps : t.open_leg.steps ≡ []
  pub closed : s.is_open ≡ false → t.is_open ≡ false

legs_same : (s t : State) → Follows s t → t.before + length t.ended ≡ s.before + length s.ended
legs_same s t f = ap₂ (λ (a b : ℕ). a + b) f.before (sym (length-map t.ended said_by) ∙ ap length f.ended ∙ length-map s.ended said_by)

pub alike : (s t : State) → Follows s t → Alike s t
alike s t f = record { rows = f.rows; legs = legs_same s t f; changes = ap length f.changes }

-- ---- the end of a leg

settle_allowed : (m : Mode) (t : State) → nat_le 1000 (t.before + length t.ended) ≡ false → refusal m t say.Settle ≡ None
settle_allowed mode.Plain t room = ap (λ (p : Bool). cond p (Some E19) None) room
settle_allowed mode.Step t room = ap (λ (p : Bool). cond p (Some E19) None) room

pub have-append : (xs ys : List (List ℕ)) → HaveNoEnd xs → HaveNoEnd ys → HaveNoEnd (xs ++ ys)
have-append [] ys p q = q
have-append (x ∷ xs) ys p q = (p.0, have-append xs ys p.1 q)

pub short_front : (xs ys : List (List ℕ)) → AreShort (xs ++ ys) → AreShort xs
short_front [] ys h = tt
short_front (x ∷ xs) ys h = (h.0, short_front xs ys h.1)

pub short_behind : (xs ys : List (List ℕ)) → AreShort (xs ++ ys) → AreShort ys
short_behind [] ys h = h
short_behind (x ∷ xs) ys h = short_behind xs ys h.1

-- where the step lines of the open leg and its settle lead
pub record Finished (m : Mode) (services : List ServiceLine) (s t : State) : Type 0 where
  pub after : State
  pub follows : Follows (next s say.Settle) after
  pub open_is : after.is_open ≡ false
  pub reads : (rest : List (List ℕ)) (last : State) → AreShort (step_lines services s.open_leg.steps ++ codes "settle" ∷ []) → Reads m after rest last
      → Reads m t ((step_lines services s.open_leg.steps ++ codes "settle" ∷ []) ++ rest) last
  pub no_end : AreShort (step_lines services s.open_leg.steps ++ codes "settle" ∷ []) → HaveNoEnd (step_lines services s.open_leg.steps ++ codes "settle" ∷ [])

pub finish : (m : Mode) (services more : List ServiceLine) (s t : State) → services ≡ lines_in s.rows ++ more → Follows s t → AreKnown m s.rows s.open_leg.steps
    → nat_le 1000 (s.before + length s.ended) ≡ false → Finished m services s t
finish m services more s t e f known room =
    let xs = s.open_leg.steps in
    let room_t : nat_le 1000 (t.before + length t.ended) ≡ false = ap (nat_le 1000) (legs_same s t f) ∙ room in
    let ran = run m services more t xs (e ∙ ap (λ rows. lines_in rows ++ more) (sym f.rows)) room_t (subst (λ rows. AreKnown m rows xs) (sym f.rows) known) in
    let there : State = ran.after in
    let st = ran.stepped in
    let room_r : nat_le 1000 (there.before + length there.ended) ≡ false = ap₂ (λ (b : ℕ) (es : List Leg). nat_le 1000 (b + length es)) st.before st.ended ∙ room_t in
    let events : map (λ (x : StepLine). x.event) there.open_leg.steps ≡ map (λ (x : StepLine). x.event) xs = st.events ∙ ap (λ ys. map (λ (x : StepLine). x.event) ys ++ map (λ (x : StepLine). x.event) xs) f.steps in
    let leg : said_by there.open_leg ≡ said_by s.open_leg = λ i. ((st.services ∙ f.services) i, (st.changes ∙ f.changes) i, events i) in
    record {
      after = next there say.Settle;
      follows = record {
        rows = st.rows ∙ f.rows;
        before = st.before ∙ f.before;
        ended =
            map-append said_by there.ended (there.open_leg ∷ [])
            ∙ ap₂ (λ (a b : List (List ServiceLine × List PlanChange × List StepEvent)). a ++ b) (ap (map said_by) st.ended ∙ f.ended) (ap (λ l. l ∷ []) leg)
            ∙ sym (map-append said_by s.ended (s.open_leg ∷ []));
        services = refl;
        changes = refl;
        steps = refl;
        closed = λ h. refl;
      };
      open_is = refl;
      reads = λ rest last short r.
          subst (λ ls. Reads m t ls last) (sym (append_assoc (step_lines services xs) (codes "settle" ∷ []) rest))
          (ran.reads (codes "settle" ∷ rest) last (short_front (step_lines services xs) (codes "settle" ∷ []) short)
          (one_more (record { reads = settle_line.0; fits = settle_allowed m there room_r }) r));
      no_end = λ short. have-append (step_lines services xs) (codes "settle" ∷ []) (ran.no_end (short_front (step_lines services xs) (codes "settle" ∷ []) short)) (settle_line.1, tt);
    }

-- ---- what is kept while the document is read

-- the step lines of the open leg have known services; it is open where fewer than 1,000 legs have ended, and else empty
pub record Kept (m : Mode) (s : State) : Type 0 where
  pub known : AreKnown m s.rows s.open_leg.steps
  pub room : s.is_open ≡ true → nat_le 1000 (s.before + length s.ended) ≡ false
  pub empty : s.is_open ≡ false → s.open_leg ≡ empty_leg

-- the lines of the changes
abbrev pub change_lines : List ServiceLine → List PlanChange → List (List ℕ)
change_lines services cs = map (λ c. change_text services c.id c.change) cs

-- the canonical lines that are still to come, and where they lead
pub record Again (m : Mode) (services : List ServiceLine) (s t last : State) : Type 0 where
  pub lines : List (List ℕ)
  pub after : State
  pub text : flat_map (leg_lines services) (legs_in last) ≡ (flat_map (leg_lines services) s.ended ++ change_lines services s.open_leg.changes) ++ lines
  pub reads : AreShort lines → Reads m t lines after
  pub no_end : AreShort lines → HaveNoEnd lines
  pub legs : map said_by (legs_in after) ≡ map said_by (legs_in last)

-- a leg more
pub leg_more : (services : List ServiceLine) (legs : List Leg) (leg : Leg) (rest : List (List ℕ)) → (flat_map (leg_lines services) (legs ++ leg ∷ []) ++ []) ++ rest
    ≡ (flat_map (leg_lines services) legs ++ change_lines services leg.changes) ++ ((step_lines services leg.steps ++ codes "settle" ∷ []) ++ rest)
leg_more services legs leg rest =
    ap (λ ls. (ls ++ []) ++ rest) (flat_map-append (leg_lines services) legs (leg ∷ [])) ∙ simp (append_assoc, append-nil)

pub at_end : (m : Mode) (services more : List ServiceLine) (s t : State) → services ≡ lines_in s.rows ++ more → Follows s t → Kept m s → Again m services s t s
at_end m services more s t e f k = by s.is_open refl
  where
    by : (b : Bool) → s.is_open ≡ b → Again m services s t s
    by true h =
        let fin = finish m services more s t e f k.known (k.room h) in
        let own = step_lines services s.open_leg.steps ++ codes "settle" ∷ [] in
        let all : legs_in s ≡ s.ended ++ s.open_leg ∷ [] = ap (λ (b : Bool). if b then s.ended ++ s.open_leg ∷ [] else s.ended) h in
        let mine : legs_in fin.after ≡ fin.after.ended = ap (λ (b : Bool). if b then fin.after.ended ++ fin.after.open_leg ∷ [] else fin.after.ended) fin.open_is in
        record {
          lines = own;
          after = fin.after;
          text = ap (flat_map (leg_lines services)) all ∙ sym (append-nil _ ∙ append-nil _) ∙ leg_more services s.ended s.open_leg [] ∙ ap (λ ls. (flat_map (leg_lines services) s.ended ++ change_lines services s.open_leg.changes) ++ ls) (append-nil own);
          reads = λ short. subst (λ ls. Reads m t ls fin.after) (append-nil own) (fin.reads [] fin.after short ends);
          no_end = fin.no_end;
          legs = ap (map said_by) mine ∙ fin.follows.ended ∙ ap (map said_by) (sym all);
        }
    by false h =
        let all : legs_in s ≡ s.ended = ap (λ (b : Bool). if b then s.ended ++ s.open_leg ∷ [] else s.ended) h in
        let mine : legs_in t ≡ t.ended = ap (λ (b : Bool). if b then t.ended ++ t.open_leg ∷ [] else t.ended) (f.closed h) in
        let none : change_lines services s.open_leg.changes ≡ [] = ap (λ (l : Leg). change_lines services l.changes) (k.empty h) in
        record {
          lines = [];
          after = t;
          text = ap (flat_map (leg_lines services)) all ∙ sym (append-nil _ ∙ ap (λ ls. flat_map (leg_lines services) s.ended ++ ls) none ∙ append-nil _);
          reads = λ short. ends;
          no_end = λ short. tt;
          legs = ap (map said_by) mine ∙ f.ended ∙ ap (map said_by) (sym all);
        }
