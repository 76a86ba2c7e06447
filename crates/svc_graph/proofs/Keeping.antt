-- What a history keeps when a body or a version is appended.
use Rattle.std.proofs.Common.{◌≡◌, ℕ, ◌-◌, true, not, ◌==◌, filter, List, [], ◌∷◌, ◌++◌, length, length-append, slice_get, get_or, zero, suc, ◌≤◌, ◌<◌, Option, Some, None, refl, ap, sym, ◌∙◌, arith}
use Rattle.std.proofs.lemmas.Bool.{lt-ltb, ltb-true}
use Rattle.std.proofs.lemmas.List.{map-append, length-map}
use Rattle.std.proofs.lemmas.List.Folds.{list_all-append}
use Rattle.std.proofs.lemmas.Option.{slice_get-map, slice_get-get_or}
use Rattle.std.specs.Cmp.Derive.{both_true}
use Rattle.std.specs.List.{list_all}
use Rattle.std.specs.Option.{option_map}
use Rattle.svc_graph.proofs.Lists.{and_left, and_right, slice_get-append, slice_get-push}
use Rattle.svc_graph.specs.declared.definition.Change.{Change}
use Rattle.svc_graph.specs.declared.definition.Change.TheVariants.{Add, Drop}
use Rattle.svc_graph.specs.declared.history.Body.{Body}
use Rattle.svc_graph.specs.declared.history.Version.{Version}
use Rattle.svc_graph.specs.declared.history.Version.TheVariants.{Input, Derived}
use Rattle.svc_graph.specs.History.{at_clock, present, definitions_brought, next_definition}
use Rattle.svc_graph.specs.Versions.{with_members, definition_of, definitions, is_within, HasBodies, with_member, without_member}

-- a version with a body that is there stands for the same definition beside one body more
definition_of-more : (bodies : List Body) (body : Body) (version : Version) → is_within bodies version ≡ true → definition_of (bodies ++ body ∷ []) version ≡ definition_of bodies version
definition_of-more bodies body (Input value) h = refl
definition_of-more bodies body (Derived number members) h =
    let below = ltb-true number (length bodies) h in
    ap (λ found. with_members found members) (slice_get-append bodies (body ∷ []) number below)

definitions_more : (bodies : List Body) (body : Body) (versions : List Version) → list_all (is_within bodies) versions ≡ true → definitions (bodies ++ body ∷ []) versions ≡ definitions bodies versions
definitions_more bodies body [] h = refl
definitions_more bodies body (version ∷ versions) h =
    let first = definition_of-more bodies body version (and_left (is_within bodies version) (list_all (is_within bodies) versions) h) in
    let rest = definitions_more bodies body versions (and_right (is_within bodies version) (list_all (is_within bodies) versions) h) in
    λ i. first i ∷ rest i

pub definitions-more : {bodies : List Body} {versions : List Version} (body : Body) → HasBodies bodies versions → definitions (bodies ++ body ∷ []) versions ≡ definitions bodies versions
definitions-more {bodies} {versions} body h = definitions_more bodies body versions h.each

-- and a body that is there stays there
is_within-more : (bodies : List Body) (body : Body) (version : Version) → is_within bodies version ≡ true → is_within (bodies ++ body ∷ []) version ≡ true
is_within-more bodies body (Input value) h = refl
is_within-more bodies body (Derived number members) h =
    lt-ltb number (length (bodies ++ body ∷ [])) (grind (arith, ltb-true number (length bodies) h, length-append bodies (body ∷ [])))

all_within-more : (bodies : List Body) (body : Body) (versions : List Version) → list_all (is_within bodies) versions ≡ true → list_all (is_within (bodies ++ body ∷ [])) versions ≡ true
all_within-more bodies body [] h = refl
all_within-more bodies body (version ∷ versions) h =
    both_true (is_within-more bodies body version (and_left (is_within bodies version) (list_all (is_within bodies) versions) h))
    (all_within-more bodies body versions (and_right (is_within bodies version) (list_all (is_within bodies) versions) h))

pub HasBodies-more : {bodies : List Body} {versions : List Version} (body : Body) → HasBodies bodies versions → HasBodies (bodies ++ body ∷ []) versions
HasBodies-more {bodies} {versions} body h = record { each = all_within-more bodies body versions h.each }

-- one version more
pub HasBodies-push : {bodies : List Body} {versions : List Version} (version : Version) → HasBodies bodies versions → is_within bodies version ≡ true → HasBodies bodies (versions ++ version ∷ [])
HasBodies-push {bodies} {versions} version h last =
    record { each = list_all-append (is_within bodies) versions (version ∷ []) ∙ both_true h.each (both_true last refl) }

-- one body more, and a version that has it
pub HasBodies-formula : {bodies : List Body} {versions : List Version} (body : Body) (members : List ℕ) → HasBodies bodies versions → HasBodies (bodies ++ body ∷ []) (versions ++ Derived (length bodies) members ∷ [])
HasBodies-formula {bodies} body members h =
    HasBodies-push (Derived (length bodies) members) (HasBodies-more body h)
    (lt-ltb (length bodies) (length (bodies ++ body ∷ [])) (omega (arith, length-append bodies (body ∷ []))))

pub definitions-formula : {bodies : List Body} {versions : List Version} (body : Body) (members : List ℕ) → HasBodies bodies versions →
    definitions (bodies ++ body ∷ []) (versions ++ Derived (length bodies) members ∷ []) ≡ definitions bodies versions ++ with_members (Some body) members ∷ []
definitions-formula {bodies} {versions} body members h =
    map-append (definition_of (bodies ++ body ∷ [])) versions (Derived (length bodies) members ∷ []) ∙
    (λ i. definitions-more body h i ++ with_members (slice_get-push bodies body i) members ∷ [])

-- the last definition is what the last version stands for
pub present-definitions : (bodies : List Body) (versions : List Version) → present (definitions bodies versions) ≡ option_map (definition_of bodies) (slice_get versions (length versions - 1))
present-definitions bodies versions = rw length-map (slice_get-map (definition_of bodies) versions (length versions - 1))

-- a member more or less in a version is one more or less in its definition
pub definition_of-with_member : (bodies : List Body) (version : Version) (member : ℕ) → definition_of bodies (with_member version member) ≡ next_definition (definition_of bodies version) (Add member)
definition_of-with_member bodies (Input value) member = refl
definition_of-with_member bodies (Derived number members) member = by (slice_get bodies number)
  where
    by : (found : Option Body) → with_members found (members ++ member ∷ []) ≡ next_definition (with_members found members) (Add member)
    by None = refl
    by (Some body) = refl

pub definition_of-without_member : (bodies : List Body) (version : Version) (member : ℕ) → definition_of bodies (without_member version member) ≡ next_definition (definition_of bodies version) (Drop member)
definition_of-without_member bodies (Input value) member = refl
definition_of-without_member bodies (Derived number members) member = by (slice_get bodies number)
  where
    by : (found : Option Body) → with_members found (filter (λ p. not (p == member)) members) ≡ next_definition (with_members found members) (Drop member)
    by None = refl
    by (Some body) = refl

-- a version with other members has the body that it had
pub is_within-with_member : (bodies : List Body) (version : Version) (member : ℕ) → is_within bodies version ≡ true → is_within bodies (with_member version member) ≡ true
is_within-with_member bodies (Input value) member h = refl
is_within-with_member bodies (Derived number members) member h = h

pub is_within-without_member : (bodies : List Body) (version : Version) (member : ℕ) → is_within bodies version ≡ true → is_within bodies (without_member version member) ≡ true
is_within-without_member bodies (Input value) member h = refl
is_within-without_member bodies (Derived number members) member h = h

-- where there is a last version, its definition is the present one
present-last : (bodies : List Body) (versions : List Version) (last : Version) → slice_get versions (length versions - 1) ≡ Some last → present (definitions bodies versions) ≡ Some (definition_of bodies last)
present-last bodies versions last h = present-definitions bodies versions ∙ ap (option_map (definition_of bodies)) h

-- the definitions after a version that a change makes of the last one
pub definitions-changed : (bodies : List Body) (versions : List Version) (last version : Version) (change : Change) →
    slice_get versions (length versions - 1) ≡ Some last → definition_of bodies version ≡ next_definition (definition_of bodies last) change →
    definitions bodies (versions ++ version ∷ []) ≡ definitions bodies versions ++ definitions_brought (present (definitions bodies versions)) change
definitions-changed bodies versions last version change at next =
    map-append (definition_of bodies) versions (version ∷ []) ∙
    (λ i. definitions bodies versions ++ next i ∷ []) ∙
    (λ i. definitions bodies versions ++ definitions_brought (sym (present-last bodies versions last at) i) change)

-- the version before a clock is the definition at it
pub at_clock-definitions : (bodies : List Body) (versions : List Version) (clock k : ℕ) (version : Version) → 1 ≤ clock → k ≡ clock - 1 → k < length versions → version ≡ get_or versions k version →
    Some (definition_of bodies version) ≡ at_clock (definitions bodies versions) clock
at_clock-definitions bodies versions zero k version born place within read = absurd (omega arith)
at_clock-definitions bodies versions (suc c) k version born place within read =
    let same : k ≡ c = omega arith in
    ap (λ v. Some (definition_of bodies v)) read ∙ ap (option_map (definition_of bodies)) (sym (slice_get-get_or versions k version within)) ∙
    sym (slice_get-map (definition_of bodies) versions k) ∙ ap (slice_get (definitions bodies versions)) same
