-- Values by the numbers of services.
use Rattle.std.specs.Prelude.{ℕ, List, map, slice_index_or}
use Rattle.svc_graph.specs.declared.definition.Definition.{Definition}
use Rattle.svc_graph.specs.History.{dependencies, meaning_of}
use Rattle.svc_value.specs.declared.value.Fault.TheVariants.{Empty}
use Rattle.svc_value.specs.declared.value.Value.{Value}
use Rattle.svc_value.specs.declared.value.Value.TheVariants.{Bad}

-- what stands for a value that is not there
abbrev pub nothing : Value
nothing = Bad Empty

-- the value of a service
abbrev pub value_at : List Value → ℕ → Value
value_at values n = slice_index_or values n nothing

-- the meaning of a definition over the values of its dependencies
abbrev pub value_by : Definition → List Value → Value
value_by definition values = meaning_of definition (map (value_at values) (dependencies definition))
