-- How a history is kept: each expression once, and for each definition what it has besides.
use Rattle.std.specs.Prelude.{◌≡◌, ℕ, Bool, true, ◌==◌, not, List, [], ◌∷◌, ◌++◌, map, filter, nat_lt, length, slice_get, Option, Some, None}
use Rattle.std.specs.List.{list_all}
use Rattle.svc_graph.specs.declared.definition.Definition.{Definition}
use Rattle.svc_graph.specs.declared.definition.Definition.TheVariants as definition
use Rattle.svc_graph.specs.declared.history.Body.{Body}
use Rattle.svc_graph.specs.declared.history.Version.{Version}
use Rattle.svc_graph.specs.declared.history.Version.TheVariants.{Input, Derived}
use Rattle.svc_value.specs.declared.value.Value.TheVariants.{Bad}
use Rattle.svc_value.specs.declared.value.Fault.TheVariants.{Empty}

-- a body with these members; no version names a missing body
abbrev pub with_members : Option Body → List ℕ → Definition
with_members None members = definition.Input (Bad Empty)
with_members (Some body) members = definition.Derived (record { expr = body.expr; fixed = body.fixed; members = members })

-- the definition that a version stands for
abbrev pub definition_of : List Body → Version → Definition
definition_of bodies (Input value) = definition.Input value
definition_of bodies (Derived number members) = with_members (slice_get bodies number) members

-- the definitions that the versions stand for
abbrev pub definitions : List Body → List Version → List Definition
definitions bodies versions = map (definition_of bodies) versions

-- the version names a body that is there
abbrev pub is_within : List Body → Version → Bool
is_within bodies (Input value) = true
is_within bodies (Derived number members) = nat_lt number (length bodies)

-- each does
pub record HasBodies (bodies : List Body) (versions : List Version) : Type 0 where
  pub each : list_all (is_within bodies) versions ≡ true

-- the version with one member more
abbrev pub with_member : Version → ℕ → Version
with_member (Input value) member = Input value
with_member (Derived number members) member = Derived number (members ++ member ∷ [])

-- the version without that member
abbrev pub without_member : Version → ℕ → Version
without_member (Input value) member = Input value
without_member (Derived number members) member = Derived number (filter (λ p. not (p == member)) members)
