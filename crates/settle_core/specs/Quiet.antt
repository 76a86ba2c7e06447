-- Whether nothing is in flight or left to do.
use Rattle.std.specs.Prelude.{ℕ, ◌==◌, Bool, ◌&&◌, not, List, length}
use Rattle.std.specs.List.{list_all}
use Rattle.service_machine.specs.Draining.{is_work}
use Rattle.service_machine.specs.Steps.{choice_of}
use Rattle.node_core.specs.View.{NodeView}
use Rattle.settle_core.specs.Net.{NetworkView}

-- whether the service has no change left, and a turn of it would neither take a value nor compute
abbrev pub is_finished : NodeView → Bool
is_finished s = (length s.state.left == 0) && not (is_work (choice_of s.state))

-- whether no frame waits in the link
abbrev pub is_empty : List (List ℕ) → Bool
is_empty frames = length frames == 0

-- whether each service is finished, and each link is empty
abbrev pub is_quiet : NetworkView → Bool
is_quiet net = list_all is_finished net.services && list_all is_empty net.links
