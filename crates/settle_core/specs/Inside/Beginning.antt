-- The part of a leg that each service gets, and the nodes that begin it.
use Rattle.std.specs.Prelude.{◌≡◌, ℕ, ◌+◌, ◌<◌, ◌≤◌, List, [], ◌∷◌, ◌++◌, length, slice_index_or, slice_set, Option, None, Some, unwrap_or}
use Rattle.propagation.specs.Lists.{Has}
use Rattle.service_machine.specs.Openings.{AtRest}
use Rattle.svc_graph.specs.Book.{IsDefinitionOf}
use Rattle.svc_graph.specs.declared.definition.Definition.{Definition}
use Rattle.svc_graph.specs.declared.kind.Kind.{Kind}
use Rattle.svc_graph.specs.History.{Row, roster_of}
use Rattle.link_fifo.specs.Waiting.{Link}
use Rattle.svc_plan.specs.declared.plan.PlanChange.{PlanChange}
use Rattle.svc_plan.specs.declared.plan.ServiceLine.{ServiceLine}
use Rattle.svc_plan.specs.Rows.{with_services}
use Rattle.node_core.specs.Coming.{coming}
use Rattle.node_core.specs.View.{NodeView}
use Rattle.settle_core.specs.declared.opening.LegPart.{LegPart}
use Rattle.settle_core.specs.Net.{NetworkView, service_at}
use Rattle.settle_core.specs.Opening.{changes_of, opened_node}
use Rattle.settle_core.specs.Inside.Table.{waiting_in}
use Rattle.svc_value.specs.declared.limits.TheConstants.{MAX_CLOCK, MAX_SERVICES}

-- the part of a service that is not there
abbrev pub blank : LegPart
blank = record { roster = None; changes = [] }

-- the roster that a leg gives the nodes: that of the rows with the services that it declares, and none where it declares none
abbrev pub roster_given : List Row → List ServiceLine → Option (List Kind)
roster_given rows [] = None
roster_given rows (line ∷ lines) = Some (roster_of (with_services rows (line ∷ lines)))

-- the parts of so many services: each has the roster that is given, and those of the changes that are its own
pub record AreParts (count : ℕ) (roster : Option (List Kind)) (changes : List PlanChange) (parts : List LegPart) : Type 0 where
  pub count_is : length parts ≡ count
  pub each : (n : ℕ) → n < count → slice_index_or parts n blank ≡ record { roster = roster; changes = changes_of n changes }

-- the part of the change's service has this change more, behind the others
pub record AddsChange (next : PlanChange) (old new : List LegPart) : Type 0 where
  pub part : LegPart
  pub table : new ≡ slice_set old next.id part
  pub roster : part.roster ≡ (slice_index_or old next.id blank).roster
  pub changes : part.changes ≡ (slice_index_or old next.id blank).changes ++ next.change ∷ []

-- the roster of a node that gets this part: the one in it, or that of before
abbrev pub roster_known : LegPart → NodeView → List Kind
roster_known part s = unwrap_or part.roster s.roster

-- the node that has begun the leg with this part
abbrev pub begun_with : LegPart → NodeView → NodeView
begun_with part s = opened_node (roster_known part s) part.changes s

-- what a node rests on that ends its leg and begins the next one with this part
pub record CanBegin (s : NodeView) (part : LegPart) : Type 0 where
  pub rest : AtRest s.state
  pub handed : s.outbox ≡ []
  pub few : length (roster_known part s) ≤ MAX_SERVICES
  pub known : s.state.id < length (roster_known part s)
  pub accepted : (d : Definition) → Has (coming s.state.definition part.changes) d → IsDefinitionOf (roster_known part s) s.state.id d
  pub clock : s.state.own + length part.changes ≤ MAX_CLOCK

-- each of these nodes can, with its part
abbrev pub EachCanBegin : List NodeView → List LegPart → Type 0
EachCanBegin services parts = (n : ℕ) → n < length services → CanBegin (service_at services n) (slice_index_or parts n blank)

-- the first `k` nodes have begun, each with its part, and the others are as they were
pub record HaveBegun (parts : List LegPart) (k : ℕ) (old new : List NodeView) : Type 0 where
  pub count : length new ≡ length old
  pub done : (n : ℕ) → n < k → service_at new n ≡ begun_with (slice_index_or parts n blank) (service_at old n)
  pub rest : (n : ℕ) → k ≤ n → service_at new n ≡ service_at old n

-- there are so many nodes, and the new ones are unborn
pub record MoreNodes (count : ℕ) (old new : List NodeView) : Type 0 where
  pub count_is : length new ≡ count
  pub same : (n : ℕ) → service_at new n ≡ service_at old n

-- there are so many links more, and the new ones are empty
pub record MoreLinks (more : ℕ) (old new : List Link) : Type 0 where
  pub count_is : length new ≡ length old + more
  pub same : (i : ℕ) → slice_index_or (waiting_in new) i [] ≡ slice_index_or (waiting_in old) i []

-- the network of this book, these nodes and these links
abbrev pub net_of : List Row → List NodeView → List Link → NetworkView
net_of rows services links = record { rows = rows; services = services; links = waiting_in links }
