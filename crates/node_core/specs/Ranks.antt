-- What a node knows of other services: their ranks and types, by their numbers.
use Rattle.std.specs.Prelude.{ℕ, Bool, false, List, Option, slice_get}
use Rattle.std.proofs.Common.{Some, None}
use Rattle.svc_graph.specs.declared.kind.Kind.{Kind}
use Rattle.svc_value.specs.declared.value.Value.{Value}
use Rattle.svc_value.specs.Value.{has_type}

-- the rank, where the service is known
abbrev pub rank_of : Option Kind → Option ℕ
rank_of None = None
rank_of (Some kind) = Some kind.rank

-- whether the service is known, and the value is a fault or of its type
abbrev pub is_typed : Option Kind → Value → Bool
is_typed None value = false
is_typed (Some kind) value = has_type value kind.ty

-- the rank of a service that the roster has
abbrev pub rank_in : List Kind → ℕ → Option ℕ
rank_in kinds p = rank_of (slice_get kinds p)

-- whether the roster has the service, and the value is a fault or of its type
abbrev pub typed_in : List Kind → ℕ → Value → Bool
typed_in kinds p value = is_typed (slice_get kinds p) value
