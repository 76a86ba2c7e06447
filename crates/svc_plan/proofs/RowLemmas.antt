-- Rows that grow: by services and by changes.
use Rattle.std.proofs.Common.{◌≡◌, ◌≢◌, ℕ, zero, suc, ◌+◌, ◌<◌, ◌≤◌, List, [], ◌∷◌, ◌++◌, length, length-append, Option, Some, None, refl, ap, arith}
use Rattle.std.specs.Prelude.{map, drop}
use Rattle.svc_graph.specs.declared.definition.Change.{Change}
use Rattle.svc_graph.specs.declared.definition.Change.TheVariants.{Birth}
use Rattle.svc_graph.specs.declared.definition.Definition.{Definition}
use Rattle.svc_graph.specs.History.{Row, definitions_brought, row_after, rows_after_change, history_of, present, row_at}
use Rattle.svc_plan.specs.declared.plan.ServiceLine.{ServiceLine}
use Rattle.svc_plan.specs.Rows.{row_of, with_services}
use Rattle.svc_plan.specs.Rows.{EachBorn}

-- ---- more rows behind

pub changed-append : (rows more : List Row) (n : ℕ) (change : Change) → n < length rows → rows_after_change (rows ++ more) n change ≡ rows_after_change rows n change ++ more
changed-append [] more n change h = absurd (omega arith)
changed-append (row ∷ rows) more zero change h = refl
changed-append (row ∷ rows) more (suc n) change h = ap (λ (rs : List Row). row ∷ rs) (changed-append rows more n change (omega arith))

pub row_at-append : (rows more : List Row) (n : ℕ) → n < length rows → row_at (rows ++ more) n ≡ row_at rows n
row_at-append [] more n h = absurd (omega arith)
row_at-append (row ∷ rows) more zero h = refl
row_at-append (row ∷ rows) more (suc n) h = row_at-append rows more n (omega arith)

pub row_at-last : (rows : List Row) (row : Row) → row_at (rows ++ row ∷ []) (length rows) ≡ row
row_at-last [] row = refl
row_at-last (first ∷ rows) row = row_at-last rows row

pub long-append : (rows more : List Row) (n : ℕ) → n < length rows → n < length (rows ++ more)
long-append rows more n h = omega (arith, length-append rows more, h)

pub last_within : (rows : List Row) (row : Row) → length rows < length (rows ++ row ∷ [])
last_within rows row = omega (arith, length-append rows (row ∷ []))

pub changed-last : (rows : List Row) (row : Row) (change : Change) → rows_after_change (rows ++ row ∷ []) (length rows) change ≡ rows ++ row_after row change ∷ []
changed-last [] row change = refl
changed-last (first ∷ rows) row change = ap (λ (rs : List Row). first ∷ rs) (changed-last rows row change)

-- ---- births

pub born_at : (rows : List Row) (n : ℕ) → EachBorn rows → n < length rows → history_of rows n ≢ []
born_at [] n b h = absurd (omega arith)
born_at (row ∷ rows) zero b h = b.0
born_at (row ∷ rows) (suc n) b h = born_at rows n b.1 (omega arith)

pub each_born : (rows : List Row) → ((n : ℕ) → n < length rows → history_of rows n ≢ []) → EachBorn rows
each_born [] h = tt
each_born (row ∷ rows) h = (h 0 (omega arith), each_born rows (λ n k. h (suc n) (omega arith)))

not_nil : {A : Type 0} (xs ys : List A) → xs ≢ [] → xs ++ ys ≢ []
not_nil [] ys h e = h refl
not_nil (x ∷ xs) ys h e = cc

pub born-changed : (rows : List Row) (n : ℕ) (change : Change) → EachBorn rows → EachBorn (rows_after_change rows n change)
born-changed [] n change b = tt
born-changed (row ∷ rows) zero change b = (not_nil row.history _ b.0, b.1)
born-changed (row ∷ rows) (suc n) change b = (b.0, born-changed rows n change b.1)

pub born-append : (rows : List Row) (row : Row) → EachBorn rows → row.history ≢ [] → EachBorn (rows ++ row ∷ [])
born-append [] row b h = (h, tt)
born-append (first ∷ rows) row b h = (b.0, born-append rows row b.1 h)

pub born-drop : (n : ℕ) (rows : List Row) → EachBorn rows → EachBorn (drop n rows)
born-drop zero rows b = b
born-drop (suc n) [] b = tt
born-drop (suc n) (row ∷ rows) b = born-drop n rows b.1

-- ---- clocks

length_brought : (last : Option Definition) (change : Change) → length (definitions_brought last change) ≤ 1
length_brought None (Birth first) = omega arith
length_brought None change = omega arith
length_brought (Some last) change = omega arith

-- a change brings at most one definition
pub clock-changed : (rows : List Row) (n m : ℕ) (change : Change) → length (history_of (rows_after_change rows n change) m) ≤ length (history_of rows m) + 1
clock-changed [] n m change = omega arith
clock-changed (row ∷ rows) zero zero change = rw length-append (omega (arith, length_brought (present row.history) change))
clock-changed (row ∷ rows) zero (suc m) change = omega arith
clock-changed (row ∷ rows) (suc n) zero change = omega arith
clock-changed (row ∷ rows) (suc n) (suc m) change = clock-changed rows n m change

clock-new : (lines : List ServiceLine) (m : ℕ) → length (history_of (map row_of lines) m) ≤ 0
clock-new [] m = omega arith
clock-new (line ∷ lines) zero = omega arith
clock-new (line ∷ lines) (suc m) = clock-new lines m

-- a service more brings none
pub clock-services : (rows : List Row) (lines : List ServiceLine) (m : ℕ) → length (history_of (with_services rows lines) m) ≤ length (history_of rows m)
clock-services [] lines m = clock-new lines m
clock-services (row ∷ rows) lines zero = omega arith
clock-services (row ∷ rows) lines (suc m) = clock-services rows lines m
