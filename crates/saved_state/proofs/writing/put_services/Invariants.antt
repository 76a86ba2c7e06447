use Rattle.std.proofs.Common.{◌≡◌, ◌++◌, flat_map, take, All}
use Rattle.saved_state.specs.Bytes.{service_bytes, FitsDefinition}
use Rattle.saved_state.specs.States.{names_in}
use Rattle.saved_state.proofs.writing.put_services.Given as goal

abbrev pub invariant-loop-service : goal.invariant-loop-service
invariant-loop-service l =
    (l.out.items ≡ l.fn.out.items ++ flat_map (service_bytes (names_in l.services)) (take l.service-index l.services))
    × All (λ service. FitsDefinition (names_in l.services) service.definition) (take l.service-index l.services)
