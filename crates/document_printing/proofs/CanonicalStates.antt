-- A statement is refused alike in states that differ in step lines alone.
use Rattle.std.proofs.Common.{◌≡◌, ℕ, zero, suc, ◌+◌, ◌<◌, Bool, true, false, List, [], ◌∷◌, length, get_or, Option, Some, None, refl, ap, ap₂, cond, arith}
use Rattle.std.specs.Prelude.{◌&&◌, nat_lt, nat_le}
use Rattle.std.specs.List.{list_any}
use Rattle.svc_graph.specs.History.{Row}
use Rattle.svc_graph.specs.Refusals.{names_high, has_wrong_type, has_too_many, sets_derived, changes_input, brings_again, drops_other}
use Rattle.svc_plan.specs.declared.plan.Mode.{Mode}
use Rattle.svc_plan.specs.declared.plan.Mode.TheVariants as mode
use Rattle.document_reading.specs.declared.refusal.Code.{Code}
use Rattle.document_reading.specs.declared.refusal.Code.TheVariants.{E05, E06, E07, E08, E09, E10, E11, E12, E13, E14, E15, E16, E17, E18, E19}
use Rattle.document_reading.specs.declared.statement.Statement.{Statement}
use Rattle.document_reading.specs.declared.statement.Statement.TheVariants.{Silence}
use Rattle.document_reading.specs.Refusals.{names_in, is_unknown, is_taken, is_past_services, is_large, has_wrong_rank, is_tested, is_out_of_mode, is_past_legs, holds, first_code, statement_codes, refusal}
use Rattle.document_reading.specs.State.{State, declares, changes, steps}

-- what a refusal depends on is the same in both states
pub record Alike (s t : State) : Type 0 where
  pub rows : t.rows ≡ s.rows
  pub legs : t.before + length t.ended ≡ s.before + length s.ended
  pub changes : length t.open_leg.changes ≡ length s.open_leg.changes

module _ (m : Mode) (s t : State) (a : Alike s t) where
  past_legs : (st : Statement) → is_past_legs t st ≡ is_past_legs s st
  past_legs Silence = refl
  past_legs st = ap (nat_le 1000) a.legs

  out_of_mode : (k : Mode) (st : Statement) → is_out_of_mode k t st ≡ is_out_of_mode k s st
  out_of_mode mode.Plain st = ap (λ rows. nat_lt 0 (length (steps rows 0 st))) a.rows
  out_of_mode mode.Step st = refl

  holds_alike : (st : Statement) (c : Code) → holds m t st c ≡ holds m s st c
  holds_alike st E05 = ap (λ rows. is_taken rows st) a.rows
  holds_alike st E06 = ap (λ rows. is_past_services rows st) a.rows
  holds_alike st E07 = refl
  holds_alike st E08 = ap (λ rows. list_any (is_unknown rows) (names_in st)) a.rows
  holds_alike st E09 = ap (λ rows. is_tested (λ kinds n last change. names_high kinds n change) rows st) a.rows
  holds_alike st E10 = ap (λ rows. is_tested has_wrong_type rows st) a.rows
  holds_alike st E11 = ap (λ rows. is_tested has_too_many rows st) a.rows
  holds_alike st E12 = refl
  holds_alike st E13 = ap (λ rows. is_tested (λ kinds n last change. sets_derived kinds n change) rows st) a.rows
  holds_alike st E14 = ap (λ rows. is_tested (λ kinds n last change. changes_input kinds n change) rows st) a.rows
  holds_alike st E15 = ap (λ rows. is_tested brings_again rows st) a.rows
  holds_alike st E16 = ap (λ rows. is_tested drops_other rows st) a.rows
  holds_alike st E17 =
      ap₂ (λ (rows : List Row) (n : ℕ). nat_lt 0 (length (declares st) + length (changes rows st)) && nat_le 1024 n) a.rows a.changes
  holds_alike st E18 = out_of_mode m st
  holds_alike st E19 = past_legs st
  holds_alike st c = refl

  first_alike : (st : Statement) (cs : List Code) → first_code (holds m t st) cs ≡ first_code (holds m s st) cs
  first_alike st [] = refl
  first_alike st (c ∷ cs) = ap₂ (λ (b : Bool) (rest : Option Code). cond b (Some c) rest) (holds_alike st c) (first_alike st cs)

  pub refusal_alike : (st : Statement) → refusal m t st ≡ refusal m s st
  refusal_alike st = first_alike st statement_codes

-- ---- what holds of a statement that is not refused

first_none : (b : Bool) (c : Code) (rest : Option Code) → cond b (Some c) rest ≡ None → (b ≡ false) × (rest ≡ None)
first_none true c rest h = absurd (cc h)
first_none false c rest h = (refl, h)

none_holds : (test : Code → Bool) (cs : List Code) → first_code test cs ≡ None → (k : ℕ) → k < length cs → test (get_or cs k E05) ≡ false
none_holds test [] h k less = absurd (omega arith)
none_holds test (c ∷ cs) h zero less = (first_none (test c) c (first_code test cs) h).0
none_holds test (c ∷ cs) h (suc k) less = none_holds test cs (first_none (test c) c (first_code test cs) h).1 k (omega (arith, less))

-- the tests that the statement passes
pub record Fits (m : Mode) (s : State) (st : Statement) : Type 0 where
  pub rank : has_wrong_rank st ≡ false
  pub names : list_any (is_unknown s.rows) (names_in st) ≡ false
  pub size : is_large st ≡ false
  pub mode : is_out_of_mode m s st ≡ false
  pub legs : is_past_legs s st ≡ false

pub fits : (m : Mode) (s : State) (st : Statement) → refusal m s st ≡ None → Fits m s st
fits m s st h = record {
  rank = none_holds (holds m s st) statement_codes h 2 (omega arith);
  names = none_holds (holds m s st) statement_codes h 3 (omega arith);
  size = none_holds (holds m s st) statement_codes h 7 (omega arith);
  mode = none_holds (holds m s st) statement_codes h 13 (omega arith);
  legs = none_holds (holds m s st) statement_codes h 14 (omega arith);
}
