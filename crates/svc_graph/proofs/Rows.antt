-- The rows that stand in three columns of one length.
use Rattle.std.proofs.Common.{◌≡◌, ℕ, suc, ◌<◌, List, [], ◌∷◌, ◌++◌, map, length, length-append, get_or, position, refl, ap, sym, ◌∙◌, arith, zero}
use Rattle.std.specs.Str.{bytes_eq}
use Rattle.std.proofs.Math.ListN.{get_or-map, set}
use Rattle.std.proofs.lemmas.List as lists
use Rattle.std.proofs.lemmas.List.{get_or_default, length-set}
use Rattle.svc_graph.specs.Book.{IsBook}
use Rattle.svc_graph.specs.Columns.{rows_of, AreColumns}
use Rattle.svc_graph.specs.declared.definition.Change.{Change}
use Rattle.svc_graph.specs.declared.definition.Definition.{Definition}
use Rattle.svc_graph.specs.declared.kind.Kind.{Kind}
use Rattle.svc_value.specs.declared.value.ValueType.TheVariants.{Int}
use Rattle.svc_graph.specs.History.{Row, kind_of, definitions_brought, rows_after_change, present, row_at, names_in, find_service, roster_of, declared_row}

-- the row of a service that is not declared
abbrev nobody : Row
nobody = declared_row [] 0 Int

pub length-rows_of : (names : List (List ℕ)) (kinds : List Kind) (histories : List (List Definition)) → length kinds ≡ length names → length histories ≡ length names →
    length (rows_of names kinds histories) ≡ length names
length-rows_of [] kinds histories k h = refl
length-rows_of (name ∷ names) [] histories k h = absurd (omega arith)
length-rows_of (name ∷ names) (kind ∷ kinds) [] k h = absurd (omega arith)
length-rows_of (name ∷ names) (kind ∷ kinds) (history ∷ histories) k h = ap suc (length-rows_of names kinds histories (omega arith) (omega arith))

pub names_in-rows_of : (names : List (List ℕ)) (kinds : List Kind) (histories : List (List Definition)) → length kinds ≡ length names → length histories ≡ length names →
    names_in (rows_of names kinds histories) ≡ names
names_in-rows_of [] kinds histories k h = refl
names_in-rows_of (name ∷ names) [] histories k h = absurd (omega arith)
names_in-rows_of (name ∷ names) (kind ∷ kinds) [] k h = absurd (omega arith)
names_in-rows_of (name ∷ names) (kind ∷ kinds) (history ∷ histories) k h = ap (λ all. name ∷ all) (names_in-rows_of names kinds histories (omega arith) (omega arith))

pub roster_of-rows_of : (names : List (List ℕ)) (kinds : List Kind) (histories : List (List Definition)) → length kinds ≡ length names → length histories ≡ length names →
    roster_of (rows_of names kinds histories) ≡ kinds
roster_of-rows_of [] [] histories k h = refl
roster_of-rows_of [] (kind ∷ kinds) histories k h = absurd (omega arith)
roster_of-rows_of (name ∷ names) [] histories k h = absurd (omega arith)
roster_of-rows_of (name ∷ names) (kind ∷ kinds) [] k h = absurd (omega arith)
roster_of-rows_of (name ∷ names) (kind ∷ kinds) (history ∷ histories) k h = ap (λ all. kind ∷ all) (roster_of-rows_of names kinds histories (omega arith) (omega arith))

pub histories_in-rows_of : (names : List (List ℕ)) (kinds : List Kind) (histories : List (List Definition)) → length kinds ≡ length names → length histories ≡ length names →
    map (λ row. row.history) (rows_of names kinds histories) ≡ histories
histories_in-rows_of [] kinds [] k h = refl
histories_in-rows_of [] kinds (history ∷ histories) k h = absurd (omega arith)
histories_in-rows_of (name ∷ names) [] histories k h = absurd (omega arith)
histories_in-rows_of (name ∷ names) (kind ∷ kinds) [] k h = absurd (omega arith)
histories_in-rows_of (name ∷ names) (kind ∷ kinds) (history ∷ histories) k h = ap (λ all. history ∷ all) (histories_in-rows_of names kinds histories (omega arith) (omega arith))

pub place_of-rows_of : (names : List (List ℕ)) (kinds : List Kind) (histories : List (List Definition)) (text : List ℕ) → length kinds ≡ length names → length histories ≡ length names →
    find_service (rows_of names kinds histories) text ≡ position (bytes_eq text) names
place_of-rows_of names kinds histories text k h =
    ap (position (bytes_eq text)) (names_in-rows_of names kinds histories k h)

-- one row more
pub rows_of-push : (names : List (List ℕ)) (kinds : List Kind) (histories : List (List Definition)) (name : List ℕ) (kind : Kind) → length kinds ≡ length names → length histories ≡ length names →
    rows_of (names ++ name ∷ []) (kinds ++ kind ∷ []) (histories ++ [] ∷ []) ≡ rows_of names kinds histories ++ declared_row name kind.rank kind.ty ∷ []
rows_of-push [] [] [] name kind k h = refl
rows_of-push [] [] (history ∷ histories) name kind k h = absurd (omega arith)
rows_of-push [] (other ∷ kinds) histories name kind k h = absurd (omega arith)
rows_of-push (first ∷ names) [] histories name kind k h = absurd (omega arith)
rows_of-push (first ∷ names) (other ∷ kinds) [] name kind k h = absurd (omega arith)
rows_of-push (first ∷ names) (other ∷ kinds) (history ∷ histories) name kind k h =
    ap (λ rows. record { name = first; rank = other.rank; ty = other.ty; history = history } ∷ rows) (rows_of-push names kinds histories name kind (omega arith) (omega arith))

-- a row with a change
pub rows_of-changed : (names : List (List ℕ)) (kinds : List Kind) (histories : List (List Definition)) (n : ℕ) (history : List Definition) (change : Change) → length kinds ≡ length names → length histories ≡ length names →
    n < length names → history ≡ get_or histories n history → rows_of names kinds (set histories n (history ++ definitions_brought (present history) change)) ≡ rows_after_change (rows_of names kinds histories) n change
rows_of-changed [] kinds histories n history change k h within read = absurd (omega arith)
rows_of-changed (name ∷ names) [] histories n history change k h within read = absurd (omega arith)
rows_of-changed (name ∷ names) (kind ∷ kinds) [] n history change k h within read = absurd (omega arith)
rows_of-changed (name ∷ names) (kind ∷ kinds) (first ∷ histories) zero history change k h within read =
    λ i. record { name = name; rank = kind.rank; ty = kind.ty; history = read i ++ definitions_brought (present (read i)) change } ∷ rows_of names kinds histories
rows_of-changed (name ∷ names) (kind ∷ kinds) (first ∷ histories) (suc n) history change k h within read =
    ap (λ rows. record { name = name; rank = kind.rank; ty = kind.ty; history = first } ∷ rows) (rows_of-changed names kinds histories n history change (omega arith) (omega arith) (omega arith) read)

-- ---- the same of columns that are those of a book

module _ {names : List (List ℕ)} {kinds : List Kind} {histories : List (List Definition)} (h : AreColumns names kinds histories) where
  pub length-book : length (rows_of names kinds histories) ≡ length names
  length-book = length-rows_of names kinds histories h.kinds_len h.histories_len

  pub roster_of-book : roster_of (rows_of names kinds histories) ≡ kinds
  roster_of-book = roster_of-rows_of names kinds histories h.kinds_len h.histories_len

  pub place_of-book : (text : List ℕ) → find_service (rows_of names kinds histories) text ≡ position (bytes_eq text) names
  place_of-book text = place_of-rows_of names kinds histories text h.kinds_len h.histories_len

  -- the history of a service is that of its place
  pub history_at-book : (n : ℕ) → (row_at (rows_of names kinds histories) n).history ≡ get_or histories n []
  history_at-book n =
      sym (get_or-map (λ row. row.history) (rows_of names kinds histories) n nobody) ∙
      ap (λ all. get_or all n []) (histories_in-rows_of names kinds histories h.kinds_len h.histories_len)

  -- and so its name
  pub name_at-book : (n : ℕ) → (row_at (rows_of names kinds histories) n).name ≡ get_or names n []
  name_at-book n =
      sym (get_or-map (λ row. row.name) (rows_of names kinds histories) n nobody) ∙
      ap (λ all. get_or all n []) (names_in-rows_of names kinds histories h.kinds_len h.histories_len)

  -- as a read within the column gives them
  pub history-read : (n : ℕ) (history : List Definition) → n < length names → history ≡ get_or histories n history → history ≡ (row_at (rows_of names kinds histories) n).history
  history-read n history at read = read ∙ get_or_default histories n history [] (omega (arith, h.histories_len)) ∙ sym (history_at-book n)

  pub name-read : (n : ℕ) (name : List ℕ) → n < length names → name ≡ get_or names n name → name ≡ (row_at (rows_of names kinds histories) n).name
  name-read n name at read = read ∙ get_or_default names n name [] at ∙ sym (name_at-book n)

  pub kind-read : (n : ℕ) (kind : Kind) → n < length names → kind ≡ get_or kinds n kind → kind ≡ kind_of (row_at (rows_of names kinds histories) n)
  kind-read n kind at read =
      read ∙ ap (λ all. get_or all n kind) (sym roster_of-book) ∙
      lists.get_or-map kind_of (rows_of names kinds histories) n nobody kind (rw length-book at)

-- a row more in each column
pub AreColumns-push : {names : List (List ℕ)} {kinds : List Kind} {histories : List (List Definition)} → AreColumns names kinds histories → (name : List ℕ) (kind : Kind) →
    IsBook (rows_of names kinds histories ++ declared_row name kind.rank kind.ty ∷ []) → AreColumns (names ++ name ∷ []) (kinds ++ kind ∷ []) (histories ++ [] ∷ [])
AreColumns-push {names} {kinds} {histories} h name kind book =
    record {
      kinds_len = omega (arith, h.kinds_len, length-append kinds (kind ∷ []), length-append names (name ∷ []));
      histories_len = omega (arith, h.histories_len, length-append histories ([] ∷ []), length-append names (name ∷ []));
      book = rw (rows_of-push names kinds histories name kind h.kinds_len h.histories_len) book;
    }

-- a definition more in one history
pub AreColumns-changed : {names : List (List ℕ)} {kinds : List Kind} {histories : List (List Definition)} → AreColumns names kinds histories → (n : ℕ) (history : List Definition) (change : Change) →
    n < length names → history ≡ get_or histories n history → IsBook (rows_after_change (rows_of names kinds histories) n change) → AreColumns names kinds (set histories n (history ++ definitions_brought (present history) change))
AreColumns-changed {names} {kinds} {histories} h n history change within read book =
    record {
      kinds_len = h.kinds_len;
      histories_len = length-set histories n (history ++ definitions_brought (present history) change) ∙ h.histories_len;
      book = rw (rows_of-changed names kinds histories n history change h.kinds_len h.histories_len within read) book;
    }
