-- Which changes are well written, whoever they are for.
use Rattle.svc_graph.specs.Accepting.{IsProper, IsWritten}
use Rattle.svc_graph.specs.declared.definition.Change.{Change}
use Rattle.svc_graph.specs.declared.definition.Change.TheVariants.{Birth, Set, Define}
use Rattle.svc_graph.specs.declared.definition.Definition.TheVariants.{Input, Derived}

-- a value that the change brings is no fault, and a formula is written
abbrev pub IsWell : Change → Type 0
IsWell (Birth (Input value)) = IsProper value
IsWell (Birth (Derived formula)) = IsWritten formula
IsWell (Set value) = IsProper value
IsWell (Define formula) = IsWritten formula
IsWell change = Unit {0}
