-- The workers after a leg, and the network that is put together of them.
use Rattle.std.proofs.Common.{◌≡◌, ◌∙◌, sym, subst, ℕ, ◌<◌, List, length, map, slice_index_or, Ok}
use Rattle.std.proofs.Math.ListN.{get_or-map}
use Rattle.std.proofs.lemmas.List.{length-map}
use Rattle.svc_graph.specs.History.{Row}
use Rattle.settle_core.specs.declared.crew.Crew.{Crew}
use Rattle.settle_core.specs.declared.worker.Worker.{Worker}
use Rattle.settle_core.specs.Legs.{IsNetwork}
use Rattle.settle_core.specs.Net.{NetworkView}
use Rattle.settle_core.specs.Running.{Goes}
use Rattle.settle_core.specs.Workers.{nodes_of, AllGoOn, AreTied, GoesOn, HasBegun, HaveOpenings, IsCrewOf, IsGathered, SameLeg}
use Rattle.settle_core.proofs.CrewLemmas.{crew_goes_on, crew_same_leg, goes_same_leg}
use Rattle.node_threads.specs.declared.leg.Done.{Done}

-- each worker of the results goes on
pub all_go_on : (workers : List Worker) (done : List Done) → length done ≡ length workers → ((i : ℕ) (w : Worker) (d : Done) → i < length workers → GoesOn (slice_index_or workers i w) (slice_index_or done i d).worker) → AllGoOn workers (map (λ d. d.worker) done)
all_go_on workers done count each = record {
  count = length-map done (λ (d : Done). d.worker) ∙ count;
  each = λ i w v less.
      let none : Done = record { worker = v; result = Ok tt } in
      let at : slice_index_or (map (λ (d : Done). d.worker) done) i v ≡ (slice_index_or done i none).worker = get_or-map (λ (d : Done). d.worker) done i none in
      rw (at) (each i w none less);
}

module _ (net : NetworkView) (crew after : Crew) (is : IsNetwork net) (begun : HasBegun net) (of : IsCrewOf net crew) (go_on : AllGoOn crew.workers.items after.workers.items) (book : after.book ≡ crew.book) where
  -- the workers may be put together
  pub can_gather : HaveOpenings after.book (nodes_of after.workers.items) × AreTied after.workers.items
  can_gather =
      let both = crew_goes_on net crew after.workers.items is begun of go_on in
      let P : List Row → Type 0 = λ rows. HaveOpenings rows (nodes_of after.workers.items) in
      (subst P (sym (book ∙ of.book)) both.0, both.1)

  -- and after the drain the network is in the same leg
  pub in_same_leg : (gathered new : NetworkView) → IsGathered after gathered → Goes gathered new → SameLeg net new
  in_same_leg gathered new together goes = goes_same_leg net gathered new (crew_same_leg net gathered crew after is begun of go_on book together) goes
