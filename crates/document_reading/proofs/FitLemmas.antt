-- What holds where a statement is not refused.
use Rattle.std.proofs.Common.{◌≡◌, ℕ, ◌+◌, ◌<◌, Bool, true, false, List, [], ◌∷◌, ◌++◌, length, Option, Some, None, refl, sym, subst, ◌∙◌, arith}
use Rattle.std.specs.Prelude.{is_some, nat_le, nat_lt, ◌||◌, if◌then◌else◌}
use Rattle.std.specs.List.{list_any}
use Rattle.std.proofs.lemmas.Bool.{ltb-false}
use Rattle.std.proofs.lemmas.List.{append-nil}
use Rattle.svc_graph.specs.declared.definition.Change.{Change}
use Rattle.svc_graph.specs.declared.definition.Change.TheVariants as change
use Rattle.svc_graph.specs.declared.definition.Definition.TheVariants as definition
use Rattle.svc_graph.specs.Accepting.{IsChangeOf}
use Rattle.svc_graph.specs.History.{Row, history_of, present, roster_of, find_service}
use Rattle.svc_graph.specs.Refusals.{AcceptsChange, names_unknown, names_high, has_wrong_type, has_too_many, sets_derived, changes_input, brings_again, drops_other, refusal_of}
use Rattle.svc_graph.proofs.AreDistinct.{or_left, or_right}
use Rattle.svc_plan.specs.declared.plan.Mode.{Mode}
use Rattle.svc_plan.specs.declared.plan.ServiceLine.{ServiceLine}
use Rattle.svc_plan.specs.Rows.{with_services, AreAcceptedAfter}
use Rattle.document_reading.specs.declared.refusal.Code.{Code}
use Rattle.document_reading.specs.declared.refusal.Code.TheVariants.{E05, E06, E07, E08, E09, E10, E11, E12, E13, E14, E15, E16, E17, E18, E19}
use Rattle.document_reading.specs.declared.statement.Body.TheVariants.{Formula, TooLarge}
use Rattle.document_reading.specs.declared.statement.Statement.{Statement}
use Rattle.document_reading.specs.declared.statement.Statement.TheVariants.{Silence, Input, Derived, Set, Add, Drop, Define, Settle, Do, Take, Turn}
use Rattle.document_reading.specs.Parser.{code_or, code_where, full_code, change_code, name_code, with_service}
use Rattle.document_reading.specs.Refusals.{is_unknown, names_in, is_taken, is_past_services, has_wrong_rank, is_large, is_past_changes, is_past_legs, holds, refusal}
use Rattle.document_reading.specs.Sound.{IsSound, IsProperStatement}
use Rattle.document_reading.specs.State.{State, declares, changes, service_named, formula_of}
use Rattle.document_reading.proofs.FormLemmas.{set_form, add_form, drop_form, define_form, input_form, derived_form}
use Rattle.document_reading.proofs.RefusalLemmas.{error_of, or_false, set_refusal, add_refusal, drop_refusal, define_refusal, input_refusal, derived_refusal}

pub record Fits (mode : Mode) (state : State) (s : Statement) : Type 0 where
  pub new : is_taken state.rows s ≡ false
  pub room : is_past_services state.rows s ≡ false
  pub rank : has_wrong_rank s ≡ false
  pub known : list_any (is_unknown state.rows) (names_in s) ≡ false
  pub small : is_large s ≡ false
  pub changes : is_past_changes state s ≡ false
  pub legs : is_past_legs state s ≡ false

passed : (b : Bool) (code : Code) (rest : Option Code) → (if b then Some code else rest) ≡ None → (b ≡ false) × (rest ≡ None)
passed true code rest h = absurd (cc)
passed false code rest h = (refl, h)

pub fits_of : (mode : Mode) (state : State) (s : Statement) → refusal mode state s ≡ None → Fits mode state s
fits_of mode state s h =
    let h5 = passed (holds mode state s E05) E05 _ h in
    let h6 = passed (holds mode state s E06) E06 _ h5.1 in
    let h7 = passed (holds mode state s E07) E07 _ h6.1 in
    let h8 = passed (holds mode state s E08) E08 _ h7.1 in
    let h9 = passed (holds mode state s E09) E09 _ h8.1 in
    let h10 = passed (holds mode state s E10) E10 _ h9.1 in
    let h11 = passed (holds mode state s E11) E11 _ h10.1 in
    let h12 = passed (holds mode state s E12) E12 _ h11.1 in
    let h13 = passed (holds mode state s E13) E13 _ h12.1 in
    let h14 = passed (holds mode state s E14) E14 _ h13.1 in
    let h15 = passed (holds mode state s E15) E15 _ h14.1 in
    let h16 = passed (holds mode state s E16) E16 _ h15.1 in
    let h17 = passed (holds mode state s E17) E17 _ h16.1 in
    let h18 = passed (holds mode state s E18) E18 _ h17.1 in
    let h19 = passed (holds mode state s E19) E19 _ h18.1 in
    record { new = h5.0; room = h6.0; rank = h7.0; known = h8.0; small = h12.0; changes = h17.0; legs = h19.0 }

-- ---- changes that are accepted

no_error : (b8 b9 b10 b11 b13 b14 b15 b16 : Bool) (other : Option Code) → code_or (error_of b8 b9 b10 b11 b13 b14 b15 b16) other ≡ None
    → error_of b8 b9 b10 b11 b13 b14 b15 b16 ≡ None
no_error true b9 b10 b11 b13 b14 b15 b16 other h = absurd (cc)
no_error false true b10 b11 b13 b14 b15 b16 other h = absurd (cc)
no_error false false true b11 b13 b14 b15 b16 other h = absurd (cc)
no_error false false false true b13 b14 b15 b16 other h = absurd (cc)
no_error false false false false true b14 b15 b16 other h = absurd (cc)
no_error false false false false false true b15 b16 other h = absurd (cc)
no_error false false false false false false true b16 other h = absurd (cc)
no_error false false false false false false false true other h = absurd (cc)
no_error false false false false false false false false other h = refl

book_accepts : (state : State) (n : ℕ) (change : Change) → change_code state n change ≡ None → refusal_of state.rows n change ≡ None
book_accepts state n change h =
    let kinds = roster_of state.rows in
    let last = present (history_of state.rows n) in
    no_error (names_unknown kinds n change) (names_high kinds n change) (has_wrong_type kinds n last change) (has_too_many kinds n last change) (sets_derived kinds n change)
    (changes_input kinds n change) (brings_again kinds n last change) (drops_other kinds n last change) (full_code (length state.open_leg.changes) (state.before + length state.ended)) h

accepts : (state : State) (n : ℕ) (change : Change) → IsChangeOf state.rows n change → change_code state n change ≡ None → AcceptsChange state.rows n change
accepts state n change form none = record { form = form; passes = book_accepts state n change none }

-- the same rows, with no service more
alone : (rows : List Row) (n : ℕ) (change : Change) → AcceptsChange rows n change → AreAcceptedAfter (with_services rows []) (record { id = n; change = change } ∷ [])
alone rows n change h = (subst (λ (rs : List Row). AcceptsChange rs n change) (sym (append-nil rows)) h, tt)

first_known : (rows : List Row) (name : List ℕ) (names : List (List ℕ)) → list_any (is_unknown rows) (name ∷ names) ≡ false → is_unknown rows name ≡ false
first_known rows name names h = or_left (is_unknown rows name) (list_any (is_unknown rows) names) h

rest_known : (rows : List Row) (name : List ℕ) (names : List (List ℕ)) → list_any (is_unknown rows) (name ∷ names) ≡ false → list_any (is_unknown rows) names ≡ false
rest_known rows name names h = or_right (is_unknown rows name) (list_any (is_unknown rows) names) h

free_name : (taken full : Bool) → taken ≡ false → full ≡ false → ◌≡◌ {A = Option Code} (if taken then Some E05 else code_where full E06) None
free_name true full h k = absurd (cc)
free_name false true h k = absurd (cc)
free_name false false h k = refl

some_rank : (rank : ℕ) → (nat_lt rank 1 || nat_lt 1000 rank) ≡ false → 0 < rank
some_rank rank h = let k = ltb-false rank 1 (or_left (nat_lt rank 1) (nat_lt 1000 rank) h) in omega arith

-- what a statement changes that is not refused is accepted by the book
pub changes_accepted : (mode : Mode) (state : State) (s : Statement) → IsSound state → IsProperStatement s → refusal mode state s ≡ None
    → AreAcceptedAfter (with_services state.rows (declares s)) (changes state.rows s)
changes_accepted mode state (Input name ty value) sound proper none =
    let f = fits_of mode state (Input name ty value) none in
    let new : name_code state.rows name ≡ None = free_name (is_some (find_service state.rows name)) (nat_le 64 (length state.rows)) (sym (or_false (is_some (find_service state.rows name))) ∙ f.new) f.room in
    let line : ServiceLine = record { name = name; rank = 0; ty = ty } in (
      accepts (with_service state line) (length state.rows) (change.Birth (definition.Input value)) (input_form state.rows name ty value proper)
          (sym (input_refusal mode state name ty value new) ∙ none),
      tt,
    )
changes_accepted mode state (Derived name ty rank (Formula formula)) sound proper none =
    let f = fits_of mode state (Derived name ty rank (Formula formula)) none in
    let new : name_code state.rows name ≡ None = free_name (is_some (find_service state.rows name)) (nat_le 64 (length state.rows)) (sym (or_false (is_some (find_service state.rows name))) ∙ f.new) f.room in
    let line : ServiceLine = record { name = name; rank = rank; ty = ty } in (
      accepts (with_service state line) (length state.rows) (change.Birth (definition.Derived (formula_of state.rows formula)))
          (derived_form state.rows name ty rank formula (some_rank rank f.rank) proper f.known)
          (sym (derived_refusal mode state name ty rank formula new f.rank f.known) ∙ none),
      tt,
    )
changes_accepted mode state (Derived name ty rank TooLarge) sound proper none = tt
changes_accepted mode state (Set name value) sound proper none =
    let known = first_known state.rows name [] (fits_of mode state (Set name value) none).known in
    alone state.rows (service_named state.rows name) (change.Set value)
    (accepts state (service_named state.rows name) (change.Set value) (set_form state name value sound known proper) (sym (set_refusal mode state name value known) ∙ none))
changes_accepted mode state (Add reader member) sound proper none =
    let names = (fits_of mode state (Add reader member) none).known in
    let known = first_known state.rows reader (member ∷ []) names in
    let also = first_known state.rows member [] (rest_known state.rows reader (member ∷ []) names) in
    alone state.rows (service_named state.rows reader) (change.Add (service_named state.rows member))
    (accepts state (service_named state.rows reader) (change.Add (service_named state.rows member)) (add_form state reader member sound known)
    (sym (add_refusal mode state reader member known also) ∙ none))
changes_accepted mode state (Drop reader member) sound proper none =
    let names = (fits_of mode state (Drop reader member) none).known in
    let known = first_known state.rows reader (member ∷ []) names in
    let also = first_known state.rows member [] (rest_known state.rows reader (member ∷ []) names) in
    alone state.rows (service_named state.rows reader) (change.Drop (service_named state.rows member))
    (accepts state (service_named state.rows reader) (change.Drop (service_named state.rows member)) (drop_form state reader member sound known)
    (sym (drop_refusal mode state reader member known also) ∙ none))
changes_accepted mode state (Define name (Formula formula)) sound proper none =
    let names = (fits_of mode state (Define name (Formula formula)) none).known in
    let known = first_known state.rows name (formula.names ++ formula.members) names in
    let rest = rest_known state.rows name (formula.names ++ formula.members) names in
    alone state.rows (service_named state.rows name) (change.Define (formula_of state.rows formula))
    (accepts state (service_named state.rows name) (change.Define (formula_of state.rows formula)) (define_form state name formula sound known proper rest)
    (sym (define_refusal mode state name formula known rest) ∙ none))
changes_accepted mode state (Define name TooLarge) sound proper none = tt
changes_accepted mode state Silence sound proper none = tt
changes_accepted mode state Settle sound proper none = tt
changes_accepted mode state (Do name) sound proper none = tt
changes_accepted mode state (Take reader sender) sound proper none = tt
changes_accepted mode state (Turn name) sound proper none = tt
