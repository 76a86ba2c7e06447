-- The refusal of a statement that makes a change is that of the book, or that there is no room.
use Rattle.std.proofs.Common.{◌≡◌, ℕ, ◌+◌, ◌<◌, Bool, true, false, List, [], ◌∷◌, ◌++◌, length, length-append, Option, Some, None, refl, sym, ap, subst, ◌∙◌, arith}
use Rattle.std.specs.Prelude.{map, is_some, ◌||◌, ◌&&◌, ◌==◌, nat_le, nat_lt, if◌then◌else◌}
use Rattle.std.specs.List.{list_any}
use Rattle.std.proofs.lemmas.Bool.{lt-leb, lt-ltb, ne_eqb}
use Rattle.std.proofs.lemmas.List.{append-nil, length-map}
use Rattle.svc_graph.specs.declared.definition.Change.{Change}
use Rattle.svc_graph.specs.declared.definition.Change.TheVariants as change
use Rattle.svc_graph.specs.declared.definition.Definition.{Definition}
use Rattle.svc_graph.specs.declared.definition.Definition.TheVariants as definition
use Rattle.svc_graph.specs.declared.errors.ChangeError.{ChangeError}
use Rattle.svc_graph.specs.declared.errors.ChangeError.TheVariants as error
use Rattle.svc_graph.specs.declared.kind.Kind.{Kind}
use Rattle.svc_graph.specs.History.{Row, history_of, kind_of, find_service, present, roster_of}
use Rattle.svc_graph.specs.Refusals.{names_unknown, names_high, has_wrong_type, has_too_many, sets_derived, changes_input, brings_again, drops_other, refusal_of, any_named}
use Rattle.svc_value.specs.declared.value.Value.{Value}
use Rattle.svc_value.specs.declared.value.ValueType.{ValueType}
use Rattle.svc_plan.specs.declared.plan.Mode.{Mode}
use Rattle.svc_plan.specs.declared.plan.Mode.TheVariants as mode
use Rattle.svc_plan.specs.declared.plan.PlanChange.{PlanChange}
use Rattle.svc_plan.specs.Rows.{with_services}
use Rattle.document_reading.specs.declared.refusal.Code.{Code}
use Rattle.document_reading.specs.declared.refusal.Code.TheVariants.{E05, E06, E07, E08, E09, E10, E11, E12, E13, E14, E15, E16, E17, E18, E19}
use Rattle.document_reading.specs.declared.statement.Body.TheVariants.{Formula}
use Rattle.document_reading.specs.declared.statement.NamedFormula.{NamedFormula}
use Rattle.document_reading.specs.declared.statement.Statement.{Statement}
use Rattle.document_reading.specs.declared.statement.Statement.TheVariants.{Input, Derived, Set, Add, Drop, Define}
use Rattle.document_reading.specs.Parser.{code_or, code_where, full_code, change_code, name_code, with_service}
use Rattle.document_reading.specs.Refusals.{is_unknown, names_in, is_taken, is_past_services, has_wrong_rank, is_large, is_tested, is_past_changes, is_out_of_mode, is_past_legs, refusal}
use Rattle.document_reading.specs.State.{State, declares, changes, steps, service_named, formula_of}
use Rattle.document_reading.proofs.NumberLemmas.{named, numbers_within, any-append, any_none}

-- ---- tests

pub none_where : (b : Bool) (code : Code) → code_where b code ≡ None → b ≡ false
none_where false code h = refl
none_where true code h = absurd (cc)

pub or_false : (b : Bool) → (b || false) ≡ b
or_false true = refl
or_false false = refl

-- the codes from E05 to E19, each with whether its condition holds
abbrev first_of : Bool → Bool → Bool → Bool → Bool → Bool → Bool → Bool → Bool → Bool → Bool → Bool → Bool → Bool → Bool → Option Code
first_of b5 b6 b7 b8 b9 b10 b11 b12 b13 b14 b15 b16 b17 b18 b19 =
    if b5 then Some E05 else (if b6 then Some E06 else (if b7 then Some E07 else (if b8 then Some E08 else (if b9 then Some E09
    else (if b10 then Some E10 else (if b11 then Some E11 else (if b12 then Some E12 else (if b13 then Some E13 else (if b14 then Some E14
    else (if b15 then Some E15 else (if b16 then Some E16 else (if b17 then Some E17 else (if b18 then Some E18 else (if b19 then Some E19 else None))))))))))))))

-- the errors from Unknown to NotMember
abbrev pub error_of : Bool → Bool → Bool → Bool → Bool → Bool → Bool → Bool → Option ChangeError
error_of b8 b9 b10 b11 b13 b14 b15 b16 =
    if b8 then Some error.Unknown else (if b9 then Some error.RankNotLower else (if b10 then Some error.WrongType else (if b11 then Some error.TooMany
    else (if b13 then Some error.NotInput else (if b14 then Some error.NotDerived else (if b15 then Some error.Already else (if b16 then Some error.NotMember else None)))))))

same_tests : (b9 b10 b11 b13 b14 b15 b16 full past : Bool)
    → first_of false false false false b9 b10 b11 false b13 b14 b15 b16 full false past
    ≡ code_or (error_of false b9 b10 b11 b13 b14 b15 b16) (if full then Some E17 else (if past then Some E19 else None))
same_tests true b10 b11 b13 b14 b15 b16 full past = refl
same_tests false true b11 b13 b14 b15 b16 full past = refl
same_tests false false true b13 b14 b15 b16 full past = refl
same_tests false false false true b14 b15 b16 full past = refl
same_tests false false false false true b15 b16 full past = refl
same_tests false false false false false true b16 full past = refl
same_tests false false false false false false true full past = refl
same_tests false false false false false false false full past = refl

-- ---- a statement that makes a change

module _ (mode : Mode) (state : State) (s : Statement) (made : PlanChange) (rows : List Row) (makes : changes state.rows s ≡ made ∷ []) (there : with_services state.rows (declares s) ≡ rows) where
  tested : (test : List Kind → ℕ → Option Definition → Change → Bool)
      → is_tested test state.rows s ≡ test (roster_of rows) made.id (present (history_of rows made.id)) made.change
  tested test =
      (λ i. list_any (λ (m : PlanChange). test (roster_of (there i)) m.id (present (history_of (there i) m.id)) m.change) (makes i))
      ∙ or_false (test (roster_of rows) made.id (present (history_of rows made.id)) made.change)

  full_is : is_past_changes state s ≡ nat_le 1024 (length state.open_leg.changes)
  full_is =
      ap (λ (cs : List PlanChange). nat_lt 0 (length (declares s) + length cs) && nat_le 1024 (length state.open_leg.changes)) makes
      ∙ ap (λ (b : Bool). b && nat_le 1024 (length state.open_leg.changes)) (lt-ltb 0 (length (declares s) + 1) (omega arith))

  pub refusal_made : is_taken state.rows s ≡ false → is_past_services state.rows s ≡ false → has_wrong_rank s ≡ false
      → list_any (is_unknown state.rows) (names_in s) ≡ false → is_large s ≡ false → is_out_of_mode mode state s ≡ false
      → is_past_legs state s ≡ nat_le 1000 (state.before + length state.ended) → names_unknown (roster_of rows) made.id made.change ≡ false
      → refusal mode state s ≡ code_or (refusal_of rows made.id made.change) (full_code (length state.open_leg.changes) (state.before + length state.ended))
  refusal_made taken room rank known small moded past all_known =
      let kinds = roster_of rows in
      let last = present (history_of rows made.id) in
      (λ i. first_of (taken i) (room i) (rank i) (known i)
      (tested (λ kinds n last change. names_high kinds n change) i) (tested has_wrong_type i) (tested has_too_many i) (small i)
      (tested (λ kinds n last change. sets_derived kinds n change) i) (tested (λ kinds n last change. changes_input kinds n change) i)
      (tested brings_again i) (tested drops_other i) (full_is i) (moded i) (past i))
      ∙ same_tests (names_high kinds made.id made.change) (has_wrong_type kinds made.id last made.change) (has_too_many kinds made.id last made.change)
      (sets_derived kinds made.id made.change) (changes_input kinds made.id made.change) (brings_again kinds made.id last made.change) (drops_other kinds made.id last made.change)
      (nat_le 1024 (length state.open_leg.changes)) (nat_le 1000 (state.before + length state.ended))
      ∙ (λ i. code_or (error_of (sym all_known i) (names_high kinds made.id made.change) (has_wrong_type kinds made.id last made.change) (has_too_many kinds made.id last made.change)
      (sets_derived kinds made.id made.change) (changes_input kinds made.id made.change) (brings_again kinds made.id last made.change) (drops_other kinds made.id last made.change))
      (full_code (length state.open_leg.changes) (state.before + length state.ended)))

-- ---- each statement

plain : (mode : Mode) (state : State) (s : Statement) → steps state.rows 0 s ≡ [] → is_out_of_mode mode state s ≡ false
plain mode.Plain state s h = ap (λ (ss : List _). nat_lt 0 (length ss)) h
plain mode.Step state s h = refl

known_number : (rows : List Row) (name : List ℕ) → is_unknown rows name ≡ false → nat_le (length (roster_of rows)) (service_named rows name) ≡ false
known_number rows name h = lt-leb (length (roster_of rows)) (service_named rows name) (subst (λ (n : ℕ). service_named rows name < n) (sym (length-map rows kind_of)) (named rows name h).within)

both_known : (rows : List Row) (a b : List ℕ) → is_unknown rows a ≡ false → is_unknown rows b ≡ false → list_any (is_unknown rows) (a ∷ b ∷ []) ≡ false
both_known rows a b h k = (λ i. h i || (k i || false))

pub set_refusal : (mode : Mode) (state : State) (name : List ℕ) (value : Value) → is_unknown state.rows name ≡ false
    → refusal mode state (Set name value) ≡ change_code state (service_named state.rows name) (change.Set value)
set_refusal mode state name value known =
    refusal_made mode state (Set name value) (record { id = service_named state.rows name; change = change.Set value }) state.rows refl (append-nil state.rows)
    refl refl refl (or_false (is_unknown state.rows name) ∙ known) refl (plain mode state (Set name value) refl) refl refl

pub add_refusal : (mode : Mode) (state : State) (reader member : List ℕ) → is_unknown state.rows reader ≡ false → is_unknown state.rows member ≡ false
    → refusal mode state (Add reader member) ≡ change_code state (service_named state.rows reader) (change.Add (service_named state.rows member))
add_refusal mode state reader member known also =
    refusal_made mode state (Add reader member) (record { id = service_named state.rows reader; change = change.Add (service_named state.rows member) }) state.rows refl (append-nil state.rows)
    refl refl refl (both_known state.rows reader member known also) refl (plain mode state (Add reader member) refl) refl (known_number state.rows member also)

pub drop_refusal : (mode : Mode) (state : State) (reader member : List ℕ) → is_unknown state.rows reader ≡ false → is_unknown state.rows member ≡ false
    → refusal mode state (Drop reader member) ≡ change_code state (service_named state.rows reader) (change.Drop (service_named state.rows member))
drop_refusal mode state reader member known also =
    refusal_made mode state (Drop reader member) (record { id = service_named state.rows reader; change = change.Drop (service_named state.rows member) }) state.rows refl (append-nil state.rows)
    refl refl refl (both_known state.rows reader member known also) refl (plain mode state (Drop reader member) refl) refl (known_number state.rows member also)

-- the names of a formula over declared services
known_formula : (rows : List Row) (formula : NamedFormula) (test : ℕ → Bool) → list_any (is_unknown rows) (formula.names ++ formula.members) ≡ false
    → ((p : ℕ) → p < length rows → test p ≡ false) → any_named test (formula_of rows formula) ≡ false
known_formula rows formula test known all =
    let parts = any-append (is_unknown rows) formula.names formula.members known in
    (λ i. any_none test (map (service_named rows) formula.names) (λ p has. all p (numbers_within rows formula.names parts.0 p has)) i
    || any_none test (map (service_named rows) formula.members) (λ p has. all p (numbers_within rows formula.members parts.1 p has)) i)

pub define_refusal : (mode : Mode) (state : State) (name : List ℕ) (formula : NamedFormula) → is_unknown state.rows name ≡ false
    → list_any (is_unknown state.rows) (formula.names ++ formula.members) ≡ false
    → refusal mode state (Define name (Formula formula)) ≡ change_code state (service_named state.rows name) (change.Define (formula_of state.rows formula))
define_refusal mode state name formula known names =
    refusal_made mode state (Define name (Formula formula)) (record { id = service_named state.rows name; change = change.Define (formula_of state.rows formula) }) state.rows refl (append-nil state.rows)
    refl refl refl (λ i. known i || names i) refl (plain mode state (Define name (Formula formula)) refl) refl
    (known_formula state.rows formula (λ p. nat_le (length (roster_of state.rows)) p) names
    (λ p h. lt-leb (length (roster_of state.rows)) p (subst (λ (n : ℕ). p < n) (sym (length-map state.rows kind_of)) h)))

-- ---- declarations

-- a name that can be declared
new_name : (taken full : Bool) → ◌≡◌ {A = Option Code} (if taken then Some E05 else code_where full E06) None → (taken ≡ false) × (full ≡ false)
new_name true full h = absurd (cc)
new_name false true h = absurd (cc)
new_name false false h = (refl, refl)

pub input_refusal : (mode : Mode) (state : State) (name : List ℕ) (ty : ValueType) (value : Value) → name_code state.rows name ≡ None
    → refusal mode state (Input name ty value)
    ≡ change_code (with_service state (record { name = name; rank = 0; ty = ty })) (length state.rows) (change.Birth (definition.Input value))
input_refusal mode state name ty value new =
    let free = new_name (is_some (find_service state.rows name)) (nat_le 64 (length state.rows)) new in
    refusal_made mode state (Input name ty value) (record { id = length state.rows; change = change.Birth (definition.Input value) })
    (with_services state.rows (record { name = name; rank = 0; ty = ty } ∷ [])) refl refl
    (or_false (is_some (find_service state.rows name)) ∙ free.0) free.1 refl refl refl (plain mode state (Input name ty value) refl) refl refl

pub derived_refusal : (mode : Mode) (state : State) (name : List ℕ) (ty : ValueType) (rank : ℕ) (formula : NamedFormula) → name_code state.rows name ≡ None
    → (nat_lt rank 1 || nat_lt 1000 rank) ≡ false → list_any (is_unknown state.rows) (formula.names ++ formula.members) ≡ false
    → refusal mode state (Derived name ty rank (Formula formula))
    ≡ change_code (with_service state (record { name = name; rank = rank; ty = ty })) (length state.rows) (change.Birth (definition.Derived (formula_of state.rows formula)))
derived_refusal mode state name ty rank formula new ranked names =
    let free = new_name (is_some (find_service state.rows name)) (nat_le 64 (length state.rows)) new in
    let rows = with_services state.rows (record { name = name; rank = rank; ty = ty } ∷ []) in
    let more : length (roster_of rows) ≡ length state.rows + 1 = length-map rows kind_of ∙ length-append state.rows _ in
    refusal_made mode state (Derived name ty rank (Formula formula)) (record { id = length state.rows; change = change.Birth (definition.Derived (formula_of state.rows formula)) })
    rows refl refl
    (or_false (is_some (find_service state.rows name)) ∙ free.0) free.1 ranked names refl (plain mode state (Derived name ty rank (Formula formula)) refl) refl
    (known_formula state.rows formula (λ p. nat_le (length (roster_of rows)) p || p == length state.rows) names
    (λ p h. (λ i. lt-leb (length (roster_of rows)) p (omega (arith, more, h)) i || ne_eqb p (length state.rows) (λ e. let k = h in omega (arith, e, h)) i)))
