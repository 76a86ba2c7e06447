-- The definitions that changes are to bring.
use Rattle.std.specs.Prelude.{List, [], ◌∷◌, Option}
use Rattle.std.proofs.Common.{Some, None}
use Rattle.svc_graph.specs.declared.definition.Change.{Change}
use Rattle.svc_graph.specs.declared.definition.Definition.{Definition}
use Rattle.svc_graph.specs.declared.definition.Definition.TheVariants.{Input}
use Rattle.svc_graph.specs.History.{next_definition}
use Rattle.svc_value.specs.declared.value.Value.TheVariants.{Bad}
use Rattle.svc_value.specs.declared.value.Fault.TheVariants.{Empty}

-- the definition, or a fault where there is none
abbrev pub defined : Option Definition → Definition
defined None = Input (Bad Empty)
defined (Some current) = current

-- the definition after a change
abbrev pub next : Option Definition → Change → Definition
next current change = next_definition (defined current) change

-- the definitions after each of the changes
abbrev pub coming : Option Definition → List Change → List Definition
coming current [] = []
coming current (change ∷ changes) = next current change ∷ coming (Some (next current change)) changes
