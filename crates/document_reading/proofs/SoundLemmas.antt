-- Lines that are read leave every service born, and no number near its limit.
use Rattle.std.proofs.Common.{◌≡◌, ℕ, ◌+◌, ◌*◌, ◌≤◌, Bool, true, false, List, [], ◌∷◌, ◌++◌, length, None, refl, sym, ap, subst, arith}
use Rattle.std.specs.Prelude.{◌==◌, if◌then◌else◌}
use Rattle.std.proofs.lemmas.List.{append-nil}
use Rattle.svc_graph.specs.declared.definition.Change.TheVariants as change
use Rattle.svc_graph.specs.declared.definition.Definition.{Definition}
use Rattle.svc_graph.specs.declared.definition.Definition.TheVariants as definition
use Rattle.svc_graph.specs.History.{Row, rows_after_change, row_after, history_of}
use Rattle.svc_plan.specs.declared.plan.Mode.{Mode}
use Rattle.svc_plan.specs.declared.plan.PlanChange.{PlanChange}
use Rattle.svc_plan.specs.declared.plan.ServiceLine.{ServiceLine}
use Rattle.svc_plan.specs.Rows.{row_of, with_services}
use Rattle.svc_plan.specs.Rows.{EachBorn}
use Rattle.svc_plan.proofs.RowLemmas.{changed-last, born_at, each_born, born-changed, born-append, clock-changed, clock-services}
use Rattle.document_reading.specs.declared.statement.Body.TheVariants.{Formula, TooLarge}
use Rattle.document_reading.specs.declared.statement.Statement.{Statement}
use Rattle.document_reading.specs.declared.statement.Statement.TheVariants.{Silence, Input, Derived, Set, Add, Drop, Define, Settle, Do, Take, Turn}
use Rattle.document_reading.specs.Document.{lines_of, before_first_line, Reads, ends, line}
use Rattle.document_reading.specs.Grammar.{Says, silent, spoken}
use Rattle.document_reading.specs.Refusals.{refusal, is_large}
use Rattle.document_reading.specs.Sound.{IsStart, IsSound}
use Rattle.document_reading.specs.State.{State, next, formula_of}
use Rattle.document_reading.proofs.FitLemmas.{fits_of}

-- ---- how long lines are

-- the bytes of lines, with an LF behind each
abbrev pub size : List (List ℕ) → ℕ
size [] = 0
size (l ∷ ls) = length l + 1 + size ls

pub size-append : (ls ms : List (List ℕ)) → size (ls ++ ms) ≡ size ls + size ms
size-append [] ms = omega arith
size-append (l ∷ ls) ms = let h = size-append ls ms in omega (arith, h)

size_before : (b : ℕ) (ls : List (List ℕ)) (most : ℕ) → size ls ≤ most + 1 → size (before_first_line b ls) ≤ most + 2
size_before b [] most h = omega arith
size_before b (l ∷ ls) most h = omega (arith, h)

size_step : (b : ℕ) (ls : List (List ℕ)) (most : ℕ) (t : Bool) → size ls ≤ most + 1 → size (if t then [] ∷ ls else before_first_line b ls) ≤ most + 2
size_step b ls most true h = omega (arith, h)
size_step b ls most false h = size_before b ls most h

pub size_lines : (bytes : List ℕ) → size (lines_of bytes) ≤ length bytes + 1
size_lines [] = omega arith
size_lines (b ∷ bytes) = let h = size_step b (lines_of bytes) (length bytes) (b == 10) (size_lines bytes) in omega (arith, h)

pub length_size : (ls : List (List ℕ)) → length ls ≤ size ls
length_size [] = omega arith
length_size (l ∷ ls) = let h = length_size ls in omega (arith, h)

-- ---- clocks

one_more : (rows : List Row) (lines : List ServiceLine) (c : PlanChange) (m : ℕ) → length (history_of (rows_after_change (with_services rows lines) c.id c.change) m) ≤ length (history_of rows m) + 1
one_more rows lines c m = omega (arith, clock-changed (with_services rows lines) c.id m c.change, clock-services rows lines m)

none_more : (rows : List Row) (lines : List ServiceLine) (m : ℕ) → length (history_of (with_services rows lines) m) ≤ length (history_of rows m) + 1
none_more rows lines m = omega (arith, clock-services rows lines m)

clock-next : (state : State) (s : Statement) (m : ℕ) → length (history_of (next state s).rows m) ≤ length (history_of state.rows m) + 1
clock-next state Silence m = omega arith
clock-next state Settle m = omega arith
clock-next state (Input name ty value) m = one_more state.rows (record { name = name; rank = 0; ty = ty } ∷ []) (record { id = length state.rows; change = change.Birth (definition.Input value) }) m
clock-next state (Derived name ty rank (Formula formula)) m =
    one_more state.rows (record { name = name; rank = rank; ty = ty } ∷ []) (record { id = length state.rows; change = change.Birth (definition.Derived (formula_of state.rows formula)) }) m
clock-next state (Derived name ty rank TooLarge) m = none_more state.rows (record { name = name; rank = rank; ty = ty } ∷ []) m
clock-next state (Set name value) m = one_more state.rows [] _ m
clock-next state (Add reader member) m = one_more state.rows [] _ m
clock-next state (Drop reader member) m = one_more state.rows [] _ m
clock-next state (Define name (Formula formula)) m = one_more state.rows [] _ m
clock-next state (Define name TooLarge) m = none_more state.rows [] m
clock-next state (Do name) m = none_more state.rows [] m
clock-next state (Take reader sender) m = none_more state.rows [] m
clock-next state (Turn name) m = none_more state.rows [] m

not_true : (b : Bool) → b ≡ true → b ≡ false → ⊥
not_true b h k = cc

clock_line : {l : List ℕ} {s : Statement} (state : State) (m : ℕ) → Says l s → 2 * length (history_of (next state s).rows m) ≤ 2 * length (history_of state.rows m) + (length l + 1)
clock_line state m (silent e) = omega arith
clock_line {l = []} state m (spoken e c k) = absurd (not_true true refl e)
clock_line {l = b ∷ l} {s = s} state m (spoken e c k) = omega (arith, clock-next state s m)

pub clock_reads : {mode : Mode} {first last : State} {front : List (List ℕ)} → Reads mode first front last → (m : ℕ)
    → 2 * length (history_of last.rows m) ≤ 2 * length (history_of first.rows m) + size front
clock_reads ends m = omega arith
clock_reads {first = first} (line h r) m = let k = clock_reads r m in let c = clock_line first m h.reads.says in omega (arith, k, c)

-- ---- births

born-next : (mode : Mode) (state : State) (s : Statement) → refusal mode state s ≡ None → EachBorn state.rows → EachBorn (next state s).rows
born-next mode state s h b = by s (fits_of mode state s h).small
  where
    birth : (new : ServiceLine) (d : Definition) → EachBorn (rows_after_change (state.rows ++ row_of new ∷ []) (length state.rows) (change.Birth d))
    birth new d =
        subst EachBorn (sym (changed-last state.rows (row_of new) (change.Birth d))) (born-append state.rows (row_after (row_of new) (change.Birth d)) b (λ e. cc))

    same : EachBorn (with_services state.rows [])
    same = subst EachBorn (sym (append-nil state.rows)) b

    by : (s : Statement) → is_large s ≡ false → EachBorn (next state s).rows
    by Silence h = b
    by Settle h = b
    by (Input name ty value) h = birth (record { name = name; rank = 0; ty = ty }) (definition.Input value)
    by (Derived name ty rank (Formula formula)) h = birth (record { name = name; rank = rank; ty = ty }) (definition.Derived (formula_of state.rows formula))
    by (Derived name ty rank TooLarge) h = absurd (cc)
    by (Set name value) h = born-changed (with_services state.rows []) _ _ same
    by (Add reader member) h = born-changed (with_services state.rows []) _ _ same
    by (Drop reader member) h = born-changed (with_services state.rows []) _ _ same
    by (Define name (Formula formula)) h = born-changed (with_services state.rows []) _ _ same
    by (Define name TooLarge) h = absurd (cc)
    by (Do name) h = same
    by (Take reader sender) h = same
    by (Turn name) h = same

pub born_reads : {mode : Mode} {first last : State} {front : List (List ℕ)} → Reads mode first front last → EachBorn first.rows → EachBorn last.rows
born_reads ends b = b
born_reads {mode = mode} {first = first} (line {statement = s} h r) b = born_reads r (born-next mode first s h.fits b)

-- ---- lines

lines_next : (state : State) (s : Statement) → (next state s).lines ≡ state.lines + 1
lines_next state Silence = refl
lines_next state Settle = refl
lines_next state s = refl

pub lines_reads : {mode : Mode} {first last : State} {front : List (List ℕ)} → Reads mode first front last → last.lines ≡ first.lines + length front
lines_reads ends = omega arith
lines_reads {first = first} (line {statement = s} h r) = let k = lines_reads r in let n = lines_next first s in omega (arith, k, n)

-- ---- between lines

pub sound_here : {mode : Mode} {first state : State} {front : List (List ℕ)} → IsStart first → Reads mode first front state → size front ≤ 1048576 → IsSound state
sound_here {first = first} {state = state} {front = front} start r short = record {
  born = λ n. born_at state.rows n (born_reads r (each_born first.rows start.born));
  clocks = λ n. let k = clock_reads r n in let c = start.clocks n in omega (arith, k, c, short);
  lines = let k = lines_reads r in let z : first.lines ≡ 0 = ap (λ (s : State). s.lines) start.begins in let l = length_size front in omega (arith, k, z, l, short);
}
