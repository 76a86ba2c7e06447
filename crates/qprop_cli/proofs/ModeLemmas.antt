-- Documents in both modes: one that is accepted without step lines is accepted with them, and its legs have none; so it has one settled text.
use Rattle.std.proofs.Common.{◌≡◌, sym, ap₂, subst, refl, ℕ, suc, ◌+◌, Bool, true, false, List, [], ◌∷◌, ◌++◌, inl, inr, length, Option, Some, None}
use Rattle.std.specs.Prelude.{nat_lt, if◌then◌else◌}
use Rattle.std.proofs.lemmas.List.Elements.{All-append, All-cons, All-nil}
use Rattle.propagation.specs.History.{Book, Central, CentralAt, now}
use Rattle.propagation.specs.Lists.{Has}
use Rattle.propagation.proofs.OneValue.{central_is_one}
use Rattle.svc_graph.specs.History.{Row, theory}
use Rattle.svc_plan.specs.declared.plan.Leg.{Leg}
use Rattle.svc_plan.specs.declared.plan.Mode.{Mode}
use Rattle.svc_plan.specs.declared.plan.Mode.TheVariants as mode
use Rattle.svc_plan.specs.declared.plan.StepLine.{StepLine}
use Rattle.svc_plan.specs.Rows.{rows_after}
use Rattle.svc_value.specs.declared.value.Value.{Value}
use Rattle.document_reading.specs.declared.refusal.Code.{Code}
use Rattle.document_reading.specs.declared.refusal.Code.TheVariants.{E01, E02, E03, E04, E05, E06, E07, E08, E09, E10, E11, E12, E13, E14, E15, E16, E17, E18, E19, E20, E21}
use Rattle.document_reading.specs.declared.statement.Statement.{Statement}
use Rattle.document_reading.specs.declared.statement.Statement.TheVariants.{Silence, Input, Derived, Set, Add, Drop, Define, Settle, Do, Take, Turn}
use Rattle.document_reading.specs.Document.{Reads, HasLegs}
use Rattle.document_reading.specs.Refusals.{first_code, holds, refusal, statement_codes}
use Rattle.document_reading.specs.State.{State, leg_said, legs_in, next, start, steps}
use Rattle.document_reading.proofs.ReadingLemmas.{one_plan}
use Rattle.trace_text.specs.Settled.{Settles, settled_block}
use Rattle.trace_text.specs.Untraced.{untraced}
use Rattle.qprop_cli.specs.Inside.Input.{GivesLegs}
use Rattle.qprop_cli.specs.Inside.StepLines.{AllFitMode}
use Rattle.qprop_cli.specs.Laws.{LegsAreOne, PlainDocumentsStep, SettledOutputsAgree, SettledTextsAreOne}

-- ---- the codes of a statement

-- where no code is the first one, this one is not, and none behind it is
head_or : (test : Bool) (first : Code) (behind : Option Code) → (if test then Some first else behind) ≡ None → (test ≡ false) × (behind ≡ None)
head_or true first behind none = absurd (cc none)
head_or false first behind none = (refl, none)

none_before : (test : Bool) (first : Code) (behind : Option Code) → test ≡ false → behind ≡ None → (if test then Some first else behind) ≡ None
none_before true first behind fails none = absurd (cc fails)
none_before false first behind fails none = none

-- then each of them fails the test
each_fails : (test : Code → Bool) (codes : List Code) → first_code test codes ≡ None → (code : Code) → Has codes code → test code ≡ false
each_fails test [] none code has = absurd has
each_fails test (first ∷ codes) none code (inl same) = subst (λ (c : Code). test c ≡ false) same (head_or (test first) first (first_code test codes) none).0
each_fails test (first ∷ codes) none code (inr has) = each_fails test codes (head_or (test first) first (first_code test codes) none).1 code has

-- and so it is by another test that fails where this one does
none_too : (test other : Code → Bool) → ((code : Code) → test code ≡ false → other code ≡ false) → (codes : List Code) → first_code test codes ≡ None → first_code other codes ≡ None
none_too test other fails [] none = refl
none_too test other fails (first ∷ codes) none =
    let parts = head_or (test first) first (first_code test codes) none in
    none_before (other first) first (first_code other codes) (fails first parts.0) (none_too test other fails codes parts.1)

-- ---- a statement in both modes

-- but for step lines, what is refused with step lines is refused without them
fails_with_steps : (state : State) (statement : Statement) (code : Code) → holds mode.Plain state statement code ≡ false → holds mode.Step state statement code ≡ false
fails_with_steps state statement E01 fails = refl
fails_with_steps state statement E02 fails = refl
fails_with_steps state statement E03 fails = refl
fails_with_steps state statement E04 fails = refl
fails_with_steps state statement E05 fails = fails
fails_with_steps state statement E06 fails = fails
fails_with_steps state statement E07 fails = fails
fails_with_steps state statement E08 fails = fails
fails_with_steps state statement E09 fails = fails
fails_with_steps state statement E10 fails = fails
fails_with_steps state statement E11 fails = fails
fails_with_steps state statement E12 fails = fails
fails_with_steps state statement E13 fails = fails
fails_with_steps state statement E14 fails = fails
fails_with_steps state statement E15 fails = fails
fails_with_steps state statement E16 fails = fails
fails_with_steps state statement E17 fails = fails
fails_with_steps state statement E18 fails = refl
fails_with_steps state statement E19 fails = fails
fails_with_steps state statement E20 fails = refl
fails_with_steps state statement E21 fails = refl

fits_with_steps : (state : State) (statement : Statement) → refusal mode.Plain state statement ≡ None → refusal mode.Step state statement ≡ None
fits_with_steps state statement fits = none_too (holds mode.Plain state statement) (holds mode.Step state statement) (fails_with_steps state statement) statement_codes fits

-- a statement of a document without step lines is none
in_mode : (state : State) (statement : Statement) → refusal mode.Plain state statement ≡ None → nat_lt 0 (length (steps state.rows 0 statement)) ≡ false
in_mode state statement fits =
    each_fails (holds mode.Plain state statement) statement_codes fits E18 (inr (inr (inr (inr (inr (inr (inr (inr (inr (inr (inr (inr (inr (inl refl))))))))))))))

no_step : (rows : List Row) (number : ℕ) (statement : Statement) → nat_lt 0 (length (steps rows 0 statement)) ≡ false → steps rows number statement ≡ []
no_step rows number Silence fits = refl
no_step rows number (Input name ty value) fits = refl
no_step rows number (Derived name ty rank body) fits = refl
no_step rows number (Set name value) fits = refl
no_step rows number (Add reader member) fits = refl
no_step rows number (Drop reader member) fits = refl
no_step rows number (Define name body) fits = refl
no_step rows number Settle fits = refl
no_step rows number (Do name) fits = absurd (cc fits)
no_step rows number (Take reader sender) fits = absurd (cc fits)
no_step rows number (Turn name) fits = absurd (cc fits)

-- ---- a document in both modes

-- no leg so far has step lines
record IsPlain (state : State) : Type 0 where
  ended : AllFitMode mode.Plain state.ended
  open_leg : state.open_leg.steps ≡ []

abbrev HasNone : Leg → Type 0
HasNone leg = leg.steps ≡ []

said_none : (state : State) (statement : Statement) → refusal mode.Plain state statement ≡ None → IsPlain state → (leg_said state statement).steps ≡ []
said_none state statement fits plain =
    ap₂ (λ (before more : List StepLine). before ++ more) plain.open_leg (no_step state.rows (state.lines + 1) statement (in_mode state statement fits))

plain_next : (state : State) (statement : Statement) → refusal mode.Plain state statement ≡ None → IsPlain state → IsPlain (next state statement)
plain_next state Silence fits plain = record { ended = plain.ended; open_leg = plain.open_leg }
plain_next state Settle fits plain = record {
  ended = All-append HasNone state.ended (state.open_leg ∷ []) plain.ended (All-cons HasNone state.open_leg [] plain.open_leg (All-nil HasNone));
  open_leg = refl;
}
plain_next state (Input name ty value) fits plain = record { ended = plain.ended; open_leg = said_none state (Input name ty value) fits plain }
plain_next state (Derived name ty rank body) fits plain = record { ended = plain.ended; open_leg = said_none state (Derived name ty rank body) fits plain }
plain_next state (Set name value) fits plain = record { ended = plain.ended; open_leg = said_none state (Set name value) fits plain }
plain_next state (Add reader member) fits plain = record { ended = plain.ended; open_leg = said_none state (Add reader member) fits plain }
plain_next state (Drop reader member) fits plain = record { ended = plain.ended; open_leg = said_none state (Drop reader member) fits plain }
plain_next state (Define name body) fits plain = record { ended = plain.ended; open_leg = said_none state (Define name body) fits plain }
plain_next state (Do name) fits plain = record { ended = plain.ended; open_leg = said_none state (Do name) fits plain }
plain_next state (Take reader sender) fits plain = record { ended = plain.ended; open_leg = said_none state (Take reader sender) fits plain }
plain_next state (Turn name) fits plain = record { ended = plain.ended; open_leg = said_none state (Turn name) fits plain }

plain_reads : {state last : State} {lines : List (List ℕ)} → Reads mode.Plain state lines last → IsPlain state → IsPlain last
plain_reads Reads.ends plain = plain
plain_reads (Reads.line {state = state} {statement = statement} accepts later) plain = plain_reads later (plain_next state statement accepts.fits plain)

plain_legs : (state : State) → IsPlain state → AllFitMode mode.Plain (legs_in state)
plain_legs state plain = go state.is_open
  where
    go : (is_open : Bool) → AllFitMode mode.Plain (if is_open then state.ended ++ state.open_leg ∷ [] else state.ended)
    go true = All-append HasNone state.ended (state.open_leg ∷ []) plain.ended (All-cons HasNone state.open_leg [] plain.open_leg (All-nil HasNone))
    go false = plain.ended

reads_with_steps : {state last : State} {lines : List (List ℕ)} → Reads mode.Plain state lines last → Reads mode.Step state lines last
reads_with_steps Reads.ends = Reads.ends
reads_with_steps (Reads.line {state = state} {statement = statement} accepts later) =
    Reads.line (record { reads = accepts.reads; fits = fits_with_steps state statement accepts.fits }) (reads_with_steps later)

-- it is accepted with them
pub plain_documents_step : PlainDocumentsStep
plain_documents_step bytes legs has = (has.0, record { short = has.1.short; lines = reads_with_steps has.1.lines }, has.2)

-- and its legs have none, so they fit each mode
pub plain_legs_fit : (of : Mode) (left_old left_new : Option (List ℕ)) (legs : List Leg) → GivesLegs mode.Plain left_old left_new legs → AllFitMode of legs
plain_legs_fit mode.Step left_old left_new legs gives = λ k d less. tt
plain_legs_fit mode.Plain left_old left_new legs gives =
    let has = gives.accepted in
    let first : IsPlain (start [] 0) = record { ended = All-nil HasNone; open_leg = refl } in
    subst (λ (ls : List Leg). AllFitMode mode.Plain ls) (sym has.2) (plain_legs has.0 (plain_reads has.1.lines first))

-- the legs that have step lines fit the mode that has them
pub all_fit_steps : (legs : List Leg) → AllFitMode mode.Step legs
all_fit_steps legs = λ k d less. tt

-- ---- one settled text

has_steps : (of : Mode) (bytes : List ℕ) (legs : List Leg) → HasLegs of bytes legs → HasLegs mode.Step bytes legs
has_steps mode.Plain bytes legs has = plain_documents_step bytes legs has
has_steps mode.Step bytes legs has = has

pub legs_are_one : LegsAreOne
legs_are_one one other bytes a b has also = one_plan [] 0 mode.Step bytes a b (has_steps one bytes a has) (has_steps other bytes b also)

values_are_one : {V D : Type 0} (b : Book V D) (S : ℕ → ℕ) {ns : List ℕ} {vs ws : List V} → Central b S ns vs → Central b S ns ws → vs ≡ ws
values_are_one b S Central.none Central.none = refl
values_are_one {V} {D} b S (Central.more {n = n} {v = v} is cs value rest) (Central.more {v = w} so ds other later) =
    let one : CentralAt b S n v = Central.more is cs value Central.none in
    let also : CentralAt b S n w = Central.more so ds other Central.none in
    ap₂ (λ (x : V) (xs : List V). x ∷ xs) (central_is_one V D b S n v w one also) (values_are_one b S rest later)

settles_are_one : {k : ℕ} {rows : List Row} {legs : List Leg} {a b : List ℕ} → Settles k rows legs a → Settles k rows legs b → a ≡ b
settles_are_one Settles.none Settles.none = refl
settles_are_one (Settles.leg {k = k} {rows = rows} {next = leg} {values = vs} {text = x} central rest) (Settles.leg {values = ws} {text = y} also later) =
    let here : List Row = rows_after rows leg in
    ap₂ (λ (values : List Value) (text : List ℕ). settled_block (suc k) here values ++ text) (values_are_one (theory here) (now (theory here)) central also) (settles_are_one rest later)

pub settled_texts_are_one : SettledTextsAreOne
settled_texts_are_one legs a b one other = settles_are_one one other

pub settled_outputs_agree : SettledOutputsAgree
settled_outputs_agree one other flags others left_old left_new held_old held_new left_old' left_new' held_old' held_new' network network' a b same =
    let has : HasLegs one b.read a.legs = subst (λ (bytes : List ℕ). HasLegs one bytes a.legs) same a.accepted in
    let legs : a.legs ≡ b.legs = legs_are_one one other b.read a.legs b.legs has b.accepted in
    settles_are_one (subst (λ (ls : List Leg). Settles 0 [] ls (untraced a.added)) legs a.settles) b.settles
