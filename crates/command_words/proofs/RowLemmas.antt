-- The row that clap keeps for an argument.
use Rattle.std.proofs.Common.{◌≡◌, ◌∙◌, ◌||◌, ap, Bool, cond, true, false, List, [], ◌∷◌, ◌++◌, Option, Some, None, refl, append-nil}
use Rattle.std.specs.Prelude.{is_some, find, if◌then◌else◌}
use Rattle.std.specs.Str.{bytes_eq}
use Rattle.clap.specs.Walk.{Row, Text, at_row, has_row, more_values, with_values, without}
use Rattle.clap.specs.declared.builder.value_parser.Reading.{Reading}
use Rattle.clap.specs.declared.parser.matches.ValueSource.{ValueSource}

-- the row of this name
abbrev pub row_for : Text → List Row → Option Row
row_for id rows = find (λ row. bytes_eq row.id id) rows

abbrev pub new_row : Text → Reading → ValueSource → List Text → Row
new_row id how source values = record { id = id; values = values; count = None; source = Some source; reading = how }

pub has_row_for : (id : Text) (rows : List Row) → has_row id rows ≡ is_some (row_for id rows)
has_row_for id [] = refl
has_row_for id (row ∷ rows) = go (bytes_eq row.id id) (has_row_for id rows)
  where
    go : (b : Bool) → has_row id rows ≡ is_some (row_for id rows) → (b || has_row id rows) ≡ is_some (cond b (Some row) (row_for id rows))
    go true e = refl
    go false e = e

-- a row joins where there is none
at_end : (id : Text) (change : Row → List Row) (missing rows : List Row) → row_for id rows ≡ None → at_row id change missing rows ≡ rows ++ missing
at_end id change missing [] none = refl
at_end id change missing (row ∷ rows) none = go (bytes_eq row.id id) none (at_end id change missing rows)
  where
    go : (b : Bool) → cond b (Some row) (row_for id rows) ≡ None → (row_for id rows ≡ None → at_row id change missing rows ≡ rows ++ missing)
        → (if b then change row ++ rows else row ∷ at_row id change missing rows) ≡ row ∷ (rows ++ missing)
    go true none e = absurd (cc none)
    go false none e = ap (λ (rest : List Row). row ∷ rest) (e none)

pub one_more_row : (id : Text) (how : Reading) (source : ValueSource) (values : List Text) (rows : List Row) → row_for id rows ≡ None
    → with_values id how source values (without id rows) ≡ rows ++ new_row id how source values ∷ []
one_more_row id how source values rows none =
    ap (with_values id how source values) (at_end id (λ row. []) [] rows none ∙ append-nil rows)
    ∙ at_end id (more_values source values) (new_row id how source values ∷ []) rows none

pub first_row : (id : Text) (how : Reading) (source : ValueSource) (values : List Text) (rows : List Row) → row_for id rows ≡ None
    → with_values id how source values rows ≡ rows ++ new_row id how source values ∷ []
first_row id how source values rows none = at_end id (more_values source values) (new_row id how source values ∷ []) rows none

-- the row of this name is the last one, where it has that name and none had it before
pub row_joined : (id : Text) (rows : List Row) (row : Row) → bytes_eq row.id id ≡ true → row_for id rows ≡ None → row_for id (rows ++ row ∷ []) ≡ Some row
row_joined id [] row is none = rw is refl
row_joined id (first ∷ rows) row is none = go (bytes_eq first.id id) none (row_joined id rows row is)
  where
    go : (b : Bool) → cond b (Some first) (row_for id rows) ≡ None → (row_for id rows ≡ None → row_for id (rows ++ row ∷ []) ≡ Some row)
        → cond b (Some first) (row_for id (rows ++ row ∷ [])) ≡ Some row
    go true none e = absurd (cc none)
    go false none e = e none

-- a row of another name changes nothing
pub row_stays : (id : Text) (rows : List Row) (row : Row) → bytes_eq row.id id ≡ false → row_for id (rows ++ row ∷ []) ≡ row_for id rows
row_stays id [] row other = rw other refl
row_stays id (first ∷ rows) row other = ap (cond (bytes_eq first.id id) (Some first)) (row_stays id rows row other)
