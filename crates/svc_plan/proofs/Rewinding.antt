-- What a leg adds to the rows one by one, and that what was there before is found again.
use Rattle.std.proofs.Common.{◌≡◌, ℕ, zero, suc, ◌+◌, ◌<◌, List, [], ◌∷◌, ◌++◌, map, length, take, drop, get_or, refl, sym, ap, ap₂, ◌∙◌, ◌≤◌, set, inl, inr, subst, arith, append_assoc, add-one}
use Rattle.std.proofs.lemmas.Bool.{cases_eq}
use Rattle.std.proofs.lemmas.List.{take-append-le, length-append, get_or-set_same, get_or-set_other}
use Rattle.std.proofs.Math.Seq.{take-length}
use Rattle.svc_graph.specs.declared.definition.Change.{Change}
use Rattle.svc_graph.specs.History.{Row, history_of, present, definitions_brought, rows_after_change}
use Rattle.svc_plan.specs.declared.plan.PlanChange.{PlanChange}
use Rattle.svc_plan.specs.declared.plan.ServiceLine.{ServiceLine}
use Rattle.svc_plan.specs.Rows.{row_of}
use Rattle.svc_graph.specs.Refusals.{AcceptsChange}
use Rattle.svc_plan.specs.Rows.{with_services, with_changes, AreServicesAfter, IsServiceAfter, AreAcceptedAfter}
use Rattle.svc_plan.specs.Extending.{AreWithin}
use Rattle.svc_graph.specs.Rewound.{clocks_of, rewound_rows}

-- the first rows are found again in the second by their clocks
abbrev pub FoundAgain : List Row → List Row → Type 0
FoundAgain rows new = (clocks : List ℕ) → AreWithin clocks rows → (rewound_rows new clocks ≡ rewound_rows rows clocks) × AreWithin clocks new

pub found-same : (rows new : List Row) → new ≡ rows → FoundAgain rows new
found-same rows new same = subst (λ ns. FoundAgain rows ns) (sym same) (λ clocks within. (refl, within))

pub found-trans : (rows some new : List Row) → FoundAgain rows some → FoundAgain some new → FoundAgain rows new
found-trans rows some new first second clocks within =
    let (same, there) = first clocks within in
    let (again, here) = second clocks there in
    (again ∙ same, here)

found-declared : (rows : List Row) (row : Row) → FoundAgain rows (rows ++ row ∷ [])
found-declared [] row [] within = (refl, tt)
found-declared [] row (clock ∷ clocks) within = absurd within
found-declared (first ∷ rows) row [] within = (refl, tt)
found-declared (first ∷ rows) row (clock ∷ clocks) within =
    let (same, there) = found-declared rows row clocks within.1 in
    (ap (λ rs. record first { history = take clock first.history } ∷ rs) same, (within.0, there))

found-changed : (rows : List Row) (n : ℕ) (change : Change) → FoundAgain rows (rows_after_change rows n change)
found-changed [] n change clocks within = (refl, within)
found-changed (row ∷ rows) zero change [] within = (refl, tt)
found-changed (row ∷ rows) zero change (clock ∷ clocks) within =
    let more = definitions_brought (present row.history) change in (
      ap (λ ds. record row { history = ds } ∷ rewound_rows rows clocks) (take-append-le clock row.history more within.0),
      (omega (arith, within.0, length-append row.history more), within.1),
    )
found-changed (row ∷ rows) (suc n) change [] within = (refl, tt)
found-changed (row ∷ rows) (suc n) change (clock ∷ clocks) within =
    let (same, there) = found-changed rows n change clocks within.1 in
    (ap (λ rs. record row { history = take clock row.history } ∷ rs) same, (within.0, there))

-- by all its clocks a row is itself
pub rewound-clocks_of : (rows : List Row) → rewound_rows rows (clocks_of rows) ≡ rows
rewound-clocks_of [] = refl
rewound-clocks_of (row ∷ rows) = ap₂ (λ ds rs. record row { history = ds } ∷ rs) (take-length row.history) (rewound-clocks_of rows)

pub clocks_within : (rows : List Row) → AreWithin (clocks_of rows) rows
clocks_within [] = tt
clocks_within (row ∷ rows) = (omega arith, clocks_within rows)

-- ---- the clocks of rows in a longer list

-- the list is the clocks of the rows up to this one, whatever stands behind
abbrev pub AreClocks : List Row → ℕ → List ℕ → Type 0
AreClocks rows n clocks = (k : ℕ) → k < n → get_or clocks k 0 ≡ length (history_of rows k)

pub one_clock_more : (rows : List Row) (n clock : ℕ) (clocks : List ℕ) → n < length clocks → clock ≡ length (history_of rows n) → AreClocks rows n clocks → AreClocks rows (n + 1) (set clocks n clock)
one_clock_more rows n clock clocks within is are k less =
    elim (cases_eq k n) [
      | inl same ↦ subst (λ m. get_or (set clocks n clock) m 0 ≡ length (history_of rows m)) (sym same) (get_or-set_same clocks n clock 0 within ∙ is)
      | inr other ↦ get_or-set_other clocks n k clock 0 other ∙ are k (omega (arith, other))
    ]

pub all_clocks : (rows : List Row) (clocks : List ℕ) → length rows ≤ length clocks → AreClocks rows (length rows) clocks → take (length rows) clocks ≡ clocks_of rows
all_clocks [] clocks room are = refl
all_clocks (row ∷ rows) [] room are = absurd (omega (arith, room))
all_clocks (row ∷ rows) (clock ∷ clocks) room are =
    λ i. are 0 (omega arith) i ∷ all_clocks rows clocks (omega (arith, room)) (λ k less. are (suc k) (omega (arith, less))) i

-- ---- one step of a loop

pub drop-next : {A : Type 0} (xs : List A) (i : ℕ) (x : A) → i < length xs → x ≡ get_or xs i x → drop i xs ≡ x ∷ drop (suc i) xs
drop-next [] i x less at = absurd (omega arith)
drop-next (y ∷ ys) zero x less at = ap (λ z. z ∷ ys) (sym at)
drop-next (y ∷ ys) (suc i) x less at = drop-next ys i x (omega arith) at

-- the services before the i-th are declared
pub record Declared (first : List Row) (lines : List ServiceLine) (rows : List Row) (i : ℕ) : Type 0 where
  pub goal : with_services rows (drop i lines) ≡ with_services first lines
  pub after : AreServicesAfter rows (drop i lines)
  pub older : FoundAgain first rows

module _ (first : List Row) (lines : List ServiceLine) (rows : List Row) (i : ℕ) (line : ServiceLine) (less : i < length lines) (at : line ≡ get_or lines i line) (d : Declared first lines rows i) where
  pub line_after : IsServiceAfter rows line
  line_after = (subst (AreServicesAfter rows) (drop-next lines i line less at) d.after).0

  pub line_declared : (new : List Row) → new ≡ with_services rows (line ∷ []) → Declared first lines new (i + 1)
  line_declared new is =
      let next : drop i lines ≡ line ∷ drop (suc i) lines = drop-next lines i line less at in
      let step : Declared first lines (with_services rows (line ∷ [])) (suc i) = record {
        goal = append_assoc rows (row_of line ∷ []) (map row_of (drop (suc i) lines)) ∙ sym (ap (with_services rows) next) ∙ d.goal;
        after = (subst (AreServicesAfter rows) next d.after).1;
        older = found-trans first rows (with_services rows (line ∷ [])) d.older (found-declared rows (row_of line));
      } in
      rw add-one (subst (λ rs. Declared first lines rs (suc i)) (sym is) step)

-- the changes before the i-th are made
pub record Accepted (first : List Row) (changes : List PlanChange) (rows : List Row) (i : ℕ) : Type 0 where
  pub goal : with_changes rows (drop i changes) ≡ with_changes first changes
  pub accepted : AreAcceptedAfter rows (drop i changes)
  pub older : FoundAgain first rows

module _ (first : List Row) (changes : List PlanChange) (rows : List Row) (i : ℕ) (next : PlanChange) (less : i < length changes) (at : next ≡ get_or changes i next) (d : Accepted first changes rows i) where
  pub next_accepted : AcceptsChange rows next.id next.change
  next_accepted = (subst (AreAcceptedAfter rows) (drop-next changes i next less at) d.accepted).0

  pub next_made : (new : List Row) → new ≡ rows_after_change rows next.id next.change → Accepted first changes new (i + 1)
  next_made new is =
      let here : drop i changes ≡ next ∷ drop (suc i) changes = drop-next changes i next less at in
      let step : Accepted first changes (rows_after_change rows next.id next.change) (suc i) = record {
        goal = sym (ap (with_changes rows) here) ∙ d.goal;
        accepted = (subst (AreAcceptedAfter rows) here d.accepted).1;
        older = found-trans first rows (rows_after_change rows next.id next.change) d.older (found-changed rows next.id next.change);
      } in
      rw add-one (subst (λ rs. Accepted first changes rs (suc i)) (sym is) step)

-- ---- back to the first rows

pub back : (rows new : List Row) (clocks : List ℕ) → clocks ≡ clocks_of rows → ((cs : List ℕ) → AreWithin cs rows → rewound_rows new cs ≡ rewound_rows rows cs) → rewound_rows new clocks ≡ rows
back rows new clocks same older = ap (rewound_rows new) same ∙ older (clocks_of rows) (clocks_within rows) ∙ rewound-clocks_of rows
