-- The declarations of rows, and the services that names stand for while more are declared.
use Rattle.std.proofs.Common.{◌≡◌, ℕ, zero, suc, ◌+◌, ◌<◌, Bool, true, false, cond, List, [], ◌∷◌, ◌++◌, length, get_or, map, Some, None, refl, sym, ap, ap₂, ◌∙◌, arith, ltb-true, lt-ltb}
use Rattle.std.specs.Prelude.{is_none, not, nat_lt, unwrap_or}
use Rattle.std.specs.List.{list_any, position_or_len}
use Rattle.std.specs.Str.{bytes_eq}
use Rattle.std.proofs.lemmas.List.{length-append, map-append}
use Rattle.std.proofs.lemmas.List.Sums.{passes_at_first}
use Rattle.std.proofs.lemmas.Slice.Eq.{bytes_eq-Decides}
use Rattle.svc_graph.proofs.AreDistinct.{or_left, or_right}
use Rattle.svc_graph.specs.declared.definition.Change.{Change}
use Rattle.svc_graph.specs.History.{Row, rows_after_change, names_in, find_service}
use Rattle.svc_plan.specs.declared.plan.PlanChange.{PlanChange}
use Rattle.svc_plan.specs.declared.plan.ServiceLine.{ServiceLine}
use Rattle.svc_plan.specs.Rows.{row_of, with_services, with_changes}
use Rattle.document_reading.specs.Refusals.{is_unknown}
use Rattle.document_reading.specs.State.{service_named}
use Rattle.document_printing.specs.Canonical.{service_at, name_of}

-- ---- the declarations of rows

-- the declaration of each row
abbrev pub lines_in : List Row → List ServiceLine
lines_in rows = map {A = Row} (λ row. record { name = row.name; rank = row.rank; ty = row.ty }) rows

lines-changed : (rows : List Row) (n : ℕ) (change : Change) → lines_in (rows_after_change rows n change) ≡ lines_in rows
lines-changed [] n change = refl
lines-changed (row ∷ rows) zero change = refl
lines-changed (row ∷ rows) (suc n) change = ap (λ ls. record { name = row.name; rank = row.rank; ty = row.ty } ∷ ls) (lines-changed rows n change)

lines-changes : (rows : List Row) (changes : List PlanChange) → lines_in (with_changes rows changes) ≡ lines_in rows
lines-changes rows [] = refl
lines-changes rows (x ∷ changes) = lines-changes (rows_after_change rows x.id x.change) changes ∙ lines-changed rows x.id x.change

lines-new : (lines : List ServiceLine) → lines_in (map row_of lines) ≡ lines
lines-new [] = refl
lines-new (line ∷ lines) = ap (λ ls. line ∷ ls) (lines-new lines)

lines-services : (rows : List Row) (lines : List ServiceLine) → lines_in (with_services rows lines) ≡ lines_in rows ++ lines
lines-services [] lines = lines-new lines
lines-services (row ∷ rows) lines = ap (λ ls. record { name = row.name; rank = row.rank; ty = row.ty } ∷ ls) (lines-services rows lines)

-- of rows with more services and after more changes
pub lines-next : (rows : List Row) (lines : List ServiceLine) (changes : List PlanChange) → lines_in (with_changes (with_services rows lines) changes) ≡ lines_in rows ++ lines
lines-next rows lines changes = lines-changes (with_services rows lines) changes ∙ lines-services rows lines

-- ---- names

-- the names of declarations
abbrev pub names_of : List ServiceLine → List (List ℕ)
names_of services = map (λ line. line.name) services

names-rows : (rows : List Row) → names_in rows ≡ names_of (lines_in rows)
names-rows [] = refl
names-rows (row ∷ rows) = ap (λ ns. row.name ∷ ns) (names-rows rows)

first_grows : (p : List ℕ → Bool) (xs ys : List (List ℕ)) → position_or_len p xs < length xs → position_or_len p (xs ++ ys) ≡ position_or_len p xs
first_grows p [] ys h = absurd (omega arith)
first_grows p (x ∷ xs) ys h = by (p x) (first_grows p xs ys) h
  where
    by : (t : Bool) → (position_or_len p xs < length xs → position_or_len p (xs ++ ys) ≡ position_or_len p xs) → cond (not t) (1 + position_or_len p xs) 0 < suc (length xs) → cond (not t) (1 + position_or_len p (xs ++ ys)) 0 ≡ cond (not t) (1 + position_or_len p xs) 0
    by true more h = refl
    by false more h = ap (λ n. 1 + n) (more (omega (arith, h)))

-- the service with this number is the first of this name
pub record Known (services : List ServiceLine) (name : List ℕ) (n : ℕ) : Type 0 where
  pub first : position_or_len (bytes_eq name) (names_of services) ≡ n
  pub within : n < length (names_of services)

pub known_grows : (services more : List ServiceLine) (name : List ℕ) (n : ℕ) → Known services name n → Known (services ++ more) name n
known_grows services more name n k =
    let less : position_or_len (bytes_eq name) (names_of services) < length (names_of services) = omega (arith, k.first, k.within) in
    let together : names_of (services ++ more) ≡ names_of services ++ names_of more = map-append (λ line. line.name) services more in
    record {
      first = ap (position_or_len (bytes_eq name)) together ∙ first_grows (bytes_eq name) (names_of services) (names_of more) less ∙ k.first;
      within = omega (arith, k.within, ap length together, length-append (names_of services) (names_of more));
    }

name-at : (services : List ServiceLine) (n : ℕ) → get_or (names_of services) n [] ≡ name_of services n
name-at [] n = refl
name-at (line ∷ services) zero = refl
name-at (line ∷ services) (suc n) = name-at services n

-- so its name is this
pub known_name : (services : List ServiceLine) (name : List ℕ) (n : ℕ) → Known services name n → name_of services n ≡ name
known_name services name n k =
    let less : position_or_len (bytes_eq name) (names_of services) < length (names_of services) = omega (arith, k.first, k.within) in
    let passes = passes_at_first (bytes_eq name) (names_of services) [] less in
    let same : name ≡ get_or (names_of services) (position_or_len (bytes_eq name) (names_of services)) [] = (bytes_eq-Decides name _).0 passes in
    sym (name-at services n) ∙ ap (λ m. get_or (names_of services) m []) (sym k.first) ∙ sym same

-- ---- names among rows

place_found : (less : Bool) (n : ℕ) → is_none (cond less (Some n) None) ≡ false → (less ≡ true) × (unwrap_or (cond less (Some n) None) 0 ≡ n)
place_found true n h = (refl, refl)
place_found false n h = absurd (cc h)

pub known_in : (rows : List Row) (name : List ℕ) → is_unknown rows name ≡ false → Known (lines_in rows) name (service_named rows name)
known_in rows name h =
    let names = names_in rows in
    let place : ℕ = position_or_len (bytes_eq name) names in
    let found = place_found (nat_lt place (length names)) place h in
    let less : place < length names = ltb-true place (length names) found.0 in
    record {
      first = ap (position_or_len (bytes_eq name)) (sym (names-rows rows)) ∙ sym found.1;
      within = omega (arith, found.1, less, ap length (names-rows rows));
    }

pub place_known : (rows : List Row) (name : List ℕ) (n : ℕ) → Known (lines_in rows) name n → find_service rows name ≡ Some n
place_known rows name n k =
    let names = names_in rows in
    let first : position_or_len (bytes_eq name) names ≡ n = ap (position_or_len (bytes_eq name)) (names-rows rows) ∙ k.first in
    let less : position_or_len (bytes_eq name) names < length names = omega (arith, first, k.within, ap length (names-rows rows)) in
    ap (λ (t : Bool). cond t (Some (position_or_len (bytes_eq name) names)) None) (lt-ltb _ _ less) ∙ ap (λ m. Some m) first

-- ---- lists of names

-- the names of the services that names stand for
pub names_again : (rows : List Row) (more : List ServiceLine) (names : List (List ℕ)) → list_any (is_unknown rows) names ≡ false → map (name_of (lines_in rows ++ more)) (map (service_named rows) names) ≡ names
names_again rows more [] h = refl
names_again rows more (name ∷ names) h =
    let first = or_left (is_unknown rows name) (list_any (is_unknown rows) names) h in
    ap₂ (λ (x : List ℕ) (xs : List (List ℕ)). x ∷ xs)
    (known_name (lines_in rows ++ more) name (service_named rows name) (known_grows (lines_in rows) more name _ (known_in rows name first)))
    (names_again rows more names (or_right (is_unknown rows name) (list_any (is_unknown rows) names) h))

-- a service that is declared next
pub service_next : (rows : List Row) (line : ServiceLine) (more : List ServiceLine) → service_at (lines_in rows ++ line ∷ more) (length rows) ≡ line
service_next [] line more = refl
service_next (row ∷ rows) line more = service_next rows line more
