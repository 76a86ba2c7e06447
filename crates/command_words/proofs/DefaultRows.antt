-- The rows that clap ends with, behind `run` and `step`.
use Rattle.std.proofs.Common.{◌≡◌, ◌∙◌, ap, sym, ℕ, Bool, true, false, List, [], ◌∷◌, Option, Some, None, refl, codes, fold}
use Rattle.std.specs.Prelude.{is_some, option_and_then, slice_get, if◌then◌else◌}
use Rattle.std.specs.Str.{bytes_eq}
use Rattle.clap.specs.Walk.{Row, Rule, Text, default_rows, first_of, has_row, one_of, reading_by, row_text, with_default}
use Rattle.clap.specs.declared.parser.matches.ValueSource.TheVariants.{DefaultValue}
use Rattle.command_words.specs.declared.asked.Asked.{Asked}
use Rattle.command_words.specs.declared.asked.LegAsked.{LegAsked}
use Rattle.command_words.specs.declared.asked.LegAsked.TheVariants.{No, Awaited, Leg}
use Rattle.command_words.specs.Taken.{flag_text, number_in}
use Rattle.command_words.proofs.KeptRows.{Keeps, KeepsLeg, flag_row, flag_rule, leg_rule, row_if}
use Rattle.command_words.proofs.RowLemmas.{first_row, has_row_for, new_row, row_for, row_joined, row_stays}

-- the row of a flag in the end
abbrev last_row : Text → Bool → Row
last_row id true = flag_row id
last_row id false = new_row id (reading_by (flag_rule id)) DefaultValue (codes "false" ∷ [])

no_row : (id : Text) (rows : List Row) → has_row id rows ≡ false → row_for id rows ≡ None
no_row id rows h = go (row_for id rows) (sym (has_row_for id rows) ∙ h)
  where
    go : (o : Option Row) → is_some o ≡ false → o ≡ None
    go None h = refl
    go (Some row) h = absurd (cc h)

-- the default of another argument changes nothing
other_default : (rule : Rule) (id : Text) (rows : List Row) → bytes_eq rule.id id ≡ false → row_for id (with_default rows rule) ≡ row_for id rows
other_default rule id rows other = go (has_row rule.id rows) refl rule.defaults
  where
    go : (b : Bool) → has_row rule.id rows ≡ b → (values : List Text)
        → row_for id (if b then rows else default_rows rule.id (reading_by rule) values rows) ≡ row_for id rows
    go true h values = refl
    go false h [] = refl
    go false h (value ∷ values) =
        let row = new_row rule.id (reading_by rule) DefaultValue (value ∷ values) in
        ap (row_for id) (first_row rule.id (reading_by rule) DefaultValue (value ∷ values) rows (no_row rule.id rows h)) ∙ row_stays id rows row other

-- a flag that did not stand is there by default
own_default : (id : Text) (rows : List Row) (b : Bool) → bytes_eq id id ≡ true → row_for id rows ≡ row_if id b → row_for id (with_default rows (flag_rule id)) ≡ Some (last_row id b)
own_default id rows true same is = rw (has_row_for id rows ∙ ap (λ (o : Option Row). is_some o) is) is
own_default id rows false same is =
    let row = new_row id (reading_by (flag_rule id)) DefaultValue (codes "false" ∷ []) in
    rw (has_row_for id rows ∙ ap (λ (o : Option Row). is_some o) is)
    (ap (row_for id) (first_row id (reading_by (flag_rule id)) DefaultValue (codes "false" ∷ []) rows is) ∙ row_joined id rows row same is)

abbrev rules : List Rule
rules = flag_rule (codes "trace") ∷ flag_rule (codes "sources") ∷ flag_rule (codes "keep") ∷ flag_rule (codes "resume") ∷ leg_rule ∷ []

abbrev pub with_defaults : List Row → List Row
with_defaults rows = fold with_default rows rules

module _ (rows : List Row) where
  abbrev one : List Row
  one = with_default rows (flag_rule (codes "trace"))

  abbrev two : List Row
  two = with_default one (flag_rule (codes "sources"))

  abbrev three : List Row
  three = with_default two (flag_rule (codes "keep"))

  abbrev four : List Row
  four = with_default three (flag_rule (codes "resume"))

  trace_row : (b : Bool) → row_for (codes "trace") rows ≡ row_if (codes "trace") b → row_for (codes "trace") (with_defaults rows) ≡ Some (last_row (codes "trace") b)
  trace_row b is =
      other_default leg_rule (codes "trace") four refl ∙ other_default (flag_rule (codes "resume")) (codes "trace") three refl
      ∙ other_default (flag_rule (codes "keep")) (codes "trace") two refl ∙ other_default (flag_rule (codes "sources")) (codes "trace") one refl
      ∙ own_default (codes "trace") rows b refl is

  sources_row : (b : Bool) → row_for (codes "sources") rows ≡ row_if (codes "sources") b → row_for (codes "sources") (with_defaults rows) ≡ Some (last_row (codes "sources") b)
  sources_row b is =
      other_default leg_rule (codes "sources") four refl ∙ other_default (flag_rule (codes "resume")) (codes "sources") three refl
      ∙ other_default (flag_rule (codes "keep")) (codes "sources") two refl
      ∙ own_default (codes "sources") one b refl (other_default (flag_rule (codes "trace")) (codes "sources") rows refl ∙ is)

  keep_row : (b : Bool) → row_for (codes "keep") rows ≡ row_if (codes "keep") b → row_for (codes "keep") (with_defaults rows) ≡ Some (last_row (codes "keep") b)
  keep_row b is =
      other_default leg_rule (codes "keep") four refl ∙ other_default (flag_rule (codes "resume")) (codes "keep") three refl
      ∙ own_default (codes "keep") two b refl
      (other_default (flag_rule (codes "sources")) (codes "keep") one refl ∙ other_default (flag_rule (codes "trace")) (codes "keep") rows refl ∙ is)

  resume_row : (b : Bool) → row_for (codes "resume") rows ≡ row_if (codes "resume") b → row_for (codes "resume") (with_defaults rows) ≡ Some (last_row (codes "resume") b)
  resume_row b is =
      other_default leg_rule (codes "resume") four refl
      ∙ own_default (codes "resume") three b refl
      (other_default (flag_rule (codes "keep")) (codes "resume") two refl ∙ other_default (flag_rule (codes "sources")) (codes "resume") one refl
      ∙ other_default (flag_rule (codes "trace")) (codes "resume") rows refl ∙ is)

  at_default : with_default four leg_rule ≡ four
  at_default = go (has_row (codes "at") four)
    where
      go : (b : Bool) → (if b then four else four) ≡ four
      go true = refl
      go false = refl

  at_row : row_for (codes "at") (with_defaults rows) ≡ row_for (codes "at") rows
  at_row =
      ap (row_for (codes "at")) at_default ∙ other_default (flag_rule (codes "resume")) (codes "at") three refl
      ∙ other_default (flag_rule (codes "keep")) (codes "at") two refl ∙ other_default (flag_rule (codes "sources")) (codes "at") one refl
      ∙ other_default (flag_rule (codes "trace")) (codes "at") rows refl

-- the number of a leg, if one is named
abbrev pub number_of_leg : LegAsked → Option ℕ
number_of_leg (Leg leg) = Some leg
number_of_leg leg = None

-- what is found in rows
pub record Finds (rows : List Row) (asked : Asked) : Type 0 where
  pub trace : one_of (codes "trace") rows ≡ Some (flag_text asked.traces.trace)
  pub sources : one_of (codes "sources") rows ≡ Some (flag_text asked.traces.sources)
  pub keep : one_of (codes "keep") rows ≡ Some (flag_text asked.keep)
  pub resume : one_of (codes "resume") rows ≡ Some (flag_text asked.resume)
  pub leg : number_in (first_of (codes "at") rows) ≡ number_of_leg asked.leg

abbrev text_in : Option Row → Option Text
text_in row = option_and_then row_text row

flag_found : (id : Text) (b : Bool) → text_in (Some (last_row id b)) ≡ Some (flag_text b)
flag_found id true = refl
flag_found id false = refl

leg_found : (row : Option Row) (leg : LegAsked) → KeepsLeg row leg → number_in (option_and_then (λ (r : Row). slice_get r.values 0) row) ≡ number_of_leg leg
leg_found row No k = ap (λ (o : Option Row). number_in (option_and_then (λ (r : Row). slice_get r.values 0) o)) k
leg_found row Awaited k = absurd k
leg_found row (Leg leg) k = ap (λ (o : Option Row). number_in (option_and_then (λ (r : Row). slice_get r.values 0) o)) k.is_row ∙ k.number

pub all_found : (rows : List Row) (asked : Asked) → Keeps rows asked → Finds (with_defaults rows) asked
all_found rows asked k = record {
  trace = ap text_in (trace_row rows asked.traces.trace k.trace) ∙ flag_found (codes "trace") asked.traces.trace;
  sources = ap text_in (sources_row rows asked.traces.sources k.sources) ∙ flag_found (codes "sources") asked.traces.sources;
  keep = ap text_in (keep_row rows asked.keep k.keep) ∙ flag_found (codes "keep") asked.keep;
  resume = ap text_in (resume_row rows asked.resume k.resume) ∙ flag_found (codes "resume") asked.resume;
  leg = ap (λ (o : Option Row). number_in (option_and_then (λ (r : Row). slice_get r.values 0) o)) (at_row rows) ∙ leg_found (row_for (codes "at") rows) asked.leg k.leg;
}
