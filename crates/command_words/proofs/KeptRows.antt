-- The rows that clap keeps for items behind `run` and `step`.
use Rattle.std.proofs.Common.{◌≡◌, ◌∙◌, ap, sym, subst, ℕ, Bool, true, false, List, [], ◌∷◌, ◌++◌, Option, Some, None, refl, codes}
use Rattle.std.specs.Prelude.{not}
use Rattle.clap.specs.Simple.{filled}
use Rattle.clap.specs.Walk.{Row, Rule, Text, reading_by, used}
use Rattle.clap.specs.declared.parser.matches.ValueSource.TheVariants.{CommandLine}
use Rattle.command_words.specs.declared.asked.Asked.{Asked}
use Rattle.command_words.specs.declared.asked.LegAsked.{LegAsked}
use Rattle.command_words.specs.declared.asked.LegAsked.TheVariants.{No, Awaited, Leg}
use Rattle.command_words.specs.KeptTaken.{option as option_rule}
use Rattle.command_words.specs.KeptWords.Item.{trace, sources, keep, resume, at}
use Rattle.command_words.specs.Taken.{flag}
use Rattle.command_words.specs.Words.{number_value}
use Rattle.command_words.specs.WordByWord.{is_no}
use Rattle.command_words.proofs.ItemWords.{put}
use Rattle.command_words.proofs.RowLemmas.{new_row, one_more_row, row_for, row_joined, row_stays}

-- ---- the rows of items

abbrev pub flag_rule : Text → Rule
flag_rule id = filled (flag id)

abbrev pub leg_rule : Rule
leg_rule = filled (option_rule (codes "at"))

abbrev pub flag_row : Text → Row
flag_row id = new_row id (reading_by (flag_rule id)) CommandLine (codes "true" ∷ [])

abbrev pub leg_row : Text → Row
leg_row text = new_row (codes "at") (reading_by leg_rule) CommandLine (text ∷ [])

-- the row of a flag, if it stood
abbrev pub row_if : Text → Bool → Option Row
row_if id true = Some (flag_row id)
row_if id false = None

pub record IsLegRow (row : Option Row) (leg : ℕ) : Type 0 where
  pub text : Text
  pub is_row : row ≡ Some (leg_row text)
  pub number : number_value text ≡ Some leg

abbrev pub KeepsLeg : Option Row → LegAsked → Type 0
KeepsLeg row No = row ≡ None
KeepsLeg row Awaited = ⊥
KeepsLeg row (Leg leg) = IsLegRow row leg

-- the rows are those of what is asked for
pub record Keeps (rows : List Row) (asked : Asked) : Type 0 where
  pub trace : row_for (codes "trace") rows ≡ row_if (codes "trace") asked.traces.trace
  pub sources : row_for (codes "sources") rows ≡ row_if (codes "sources") asked.traces.sources
  pub keep : row_for (codes "keep") rows ≡ row_if (codes "keep") asked.keep
  pub resume : row_for (codes "resume") rows ≡ row_if (codes "resume") asked.resume
  pub leg : KeepsLeg (row_for (codes "at") rows) asked.leg

off : (b : Bool) → not b ≡ true → b ≡ false
off true h = absurd (cc h)
off false h = refl

pub none_for : (id : Text) (rows : List Row) (b : Bool) → row_for id rows ≡ row_if id b → not b ≡ true → row_for id rows ≡ None
none_for id rows b is h = is ∙ ap (row_if id) (off b h)

abbrev pub used_flag : Text → List Row → List Row
used_flag id rows = used (flag_rule id) [] rows

abbrev pub used_leg : Text → List Row → List Row
used_leg text rows = used leg_rule (text ∷ []) rows

pub with_trace : (rows : List Row) (asked : Asked) → Keeps rows asked → not asked.traces.trace ≡ true → Keeps (used_flag (codes "trace") rows) (put asked trace)
with_trace rows asked k new =
    let row = flag_row (codes "trace") in
    let none = none_for (codes "trace") rows asked.traces.trace k.trace new in
    let same : used_flag (codes "trace") rows ≡ rows ++ row ∷ [] = one_more_row (codes "trace") (reading_by (flag_rule (codes "trace"))) CommandLine (codes "true" ∷ []) rows none in
    record {
      trace = ap (row_for (codes "trace")) same ∙ row_joined (codes "trace") rows row refl none;
      sources = ap (row_for (codes "sources")) same ∙ row_stays (codes "sources") rows row refl ∙ k.sources;
      keep = ap (row_for (codes "keep")) same ∙ row_stays (codes "keep") rows row refl ∙ k.keep;
      resume = ap (row_for (codes "resume")) same ∙ row_stays (codes "resume") rows row refl ∙ k.resume;
      leg = subst (λ (o : Option Row). KeepsLeg o asked.leg) (sym (ap (row_for (codes "at")) same ∙ row_stays (codes "at") rows row refl)) k.leg;
    }

pub with_sources : (rows : List Row) (asked : Asked) → Keeps rows asked → not asked.traces.sources ≡ true → Keeps (used_flag (codes "sources") rows) (put asked sources)
with_sources rows asked k new =
    let row = flag_row (codes "sources") in
    let none = none_for (codes "sources") rows asked.traces.sources k.sources new in
    let same : used_flag (codes "sources") rows ≡ rows ++ row ∷ [] = one_more_row (codes "sources") (reading_by (flag_rule (codes "sources"))) CommandLine (codes "true" ∷ []) rows none in
    record {
      trace = ap (row_for (codes "trace")) same ∙ row_stays (codes "trace") rows row refl ∙ k.trace;
      sources = ap (row_for (codes "sources")) same ∙ row_joined (codes "sources") rows row refl none;
      keep = ap (row_for (codes "keep")) same ∙ row_stays (codes "keep") rows row refl ∙ k.keep;
      resume = ap (row_for (codes "resume")) same ∙ row_stays (codes "resume") rows row refl ∙ k.resume;
      leg = subst (λ (o : Option Row). KeepsLeg o asked.leg) (sym (ap (row_for (codes "at")) same ∙ row_stays (codes "at") rows row refl)) k.leg;
    }

pub with_keep : (rows : List Row) (asked : Asked) → Keeps rows asked → not asked.keep ≡ true → Keeps (used_flag (codes "keep") rows) (put asked keep)
with_keep rows asked k new =
    let row = flag_row (codes "keep") in
    let none = none_for (codes "keep") rows asked.keep k.keep new in
    let same : used_flag (codes "keep") rows ≡ rows ++ row ∷ [] = one_more_row (codes "keep") (reading_by (flag_rule (codes "keep"))) CommandLine (codes "true" ∷ []) rows none in
    record {
      trace = ap (row_for (codes "trace")) same ∙ row_stays (codes "trace") rows row refl ∙ k.trace;
      sources = ap (row_for (codes "sources")) same ∙ row_stays (codes "sources") rows row refl ∙ k.sources;
      keep = ap (row_for (codes "keep")) same ∙ row_joined (codes "keep") rows row refl none;
      resume = ap (row_for (codes "resume")) same ∙ row_stays (codes "resume") rows row refl ∙ k.resume;
      leg = subst (λ (o : Option Row). KeepsLeg o asked.leg) (sym (ap (row_for (codes "at")) same ∙ row_stays (codes "at") rows row refl)) k.leg;
    }

pub with_resume : (rows : List Row) (asked : Asked) → Keeps rows asked → not asked.resume ≡ true → Keeps (used_flag (codes "resume") rows) (put asked resume)
with_resume rows asked k new =
    let row = flag_row (codes "resume") in
    let none = none_for (codes "resume") rows asked.resume k.resume new in
    let same : used_flag (codes "resume") rows ≡ rows ++ row ∷ [] = one_more_row (codes "resume") (reading_by (flag_rule (codes "resume"))) CommandLine (codes "true" ∷ []) rows none in
    record {
      trace = ap (row_for (codes "trace")) same ∙ row_stays (codes "trace") rows row refl ∙ k.trace;
      sources = ap (row_for (codes "sources")) same ∙ row_stays (codes "sources") rows row refl ∙ k.sources;
      keep = ap (row_for (codes "keep")) same ∙ row_stays (codes "keep") rows row refl ∙ k.keep;
      resume = ap (row_for (codes "resume")) same ∙ row_joined (codes "resume") rows row refl none;
      leg = subst (λ (o : Option Row). KeepsLeg o asked.leg) (sym (ap (row_for (codes "at")) same ∙ row_stays (codes "at") rows row refl)) k.leg;
    }

pub no_leg_row : (row : Option Row) (leg : LegAsked) → KeepsLeg row leg → not (not (is_no leg)) ≡ true → row ≡ None
no_leg_row row No k h = k
no_leg_row row Awaited k h = absurd k
no_leg_row row (Leg leg) k h = absurd (cc h)

pub with_leg_row : (rows : List Row) (asked : Asked) (text : Text) (leg : ℕ) → number_value text ≡ Some leg → Keeps rows asked → not (not (is_no asked.leg)) ≡ true
    → Keeps (used_leg text rows) (put asked (at leg))
with_leg_row rows asked text leg number k new =
    let row = leg_row text in
    let none = no_leg_row (row_for (codes "at") rows) asked.leg k.leg new in
    let same : used_leg text rows ≡ rows ++ row ∷ [] = one_more_row (codes "at") (reading_by leg_rule) CommandLine (text ∷ []) rows none in
    record {
      trace = ap (row_for (codes "trace")) same ∙ row_stays (codes "trace") rows row refl ∙ k.trace;
      sources = ap (row_for (codes "sources")) same ∙ row_stays (codes "sources") rows row refl ∙ k.sources;
      keep = ap (row_for (codes "keep")) same ∙ row_stays (codes "keep") rows row refl ∙ k.keep;
      resume = ap (row_for (codes "resume")) same ∙ row_stays (codes "resume") rows row refl ∙ k.resume;
      leg = record { text = text; is_row = ap (row_for (codes "at")) same ∙ row_joined (codes "at") rows row refl none; number = number };
    }
