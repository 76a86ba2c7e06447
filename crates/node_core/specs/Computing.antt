-- What a service emits over the heads of its dependencies.
use Rattle.std.specs.Prelude.{ℕ, List, [], ◌∷◌, map}
use Rattle.propagation.specs.Logs.{Emission}
use Rattle.service_machine.specs.States.{Slot, raise_all}
use Rattle.service_machine.specs.Turning.{heads}
use Rattle.svc_graph.specs.declared.definition.Definition.{Definition}
use Rattle.svc_graph.specs.History.{meaning_of}
use Rattle.svc_value.specs.declared.value.Value.{Value}

-- the meaning of the definition over their values, and the union of their stamps with the own clock
abbrev pub emission_over : ℕ → ℕ → Definition → List (Slot Value) → Emission Value
emission_over id own current slots = record { value = meaning_of current (map (λ head. head.value) (heads slots)); stamps = raise_all ((id, own) ∷ []) (heads slots) }
