-- Workers of a network that went on: they may be put together, and the network that is put together of them is in the same leg.
use Rattle.std.proofs.Common.{◌≡◌, ◌∙◌, sym, ap, subst, refl, ℕ, zero, suc, ◌-◌, ◌<◌, ◌≤◌, ltb, List, [], ◌∷◌, map, length, slice_index_or, inl, inr, Option, None, arith}
use Rattle.std.proofs.Math.ListN.{get_or-map}
use Rattle.std.proofs.lemmas.Bool.{cases_Bool, ltb-true, ltb-false}
use Rattle.std.proofs.lemmas.List.{get_or_default, get_or_past, length-map}
use Rattle.propagation.specs.Logs.{Entry as TheEntry, Leg}
use Rattle.propagation.specs.Stamps.{Stamps}
use Rattle.service_machine.specs.Gathering.{gathered_leg}
use Rattle.service_machine.specs.States.{State}
use Rattle.link_fifo.specs.declared.piece_in.PieceIn.{PieceIn}
use Rattle.link_fifo.specs.declared.piece_out.PieceOut.{PieceOut}
use Rattle.node_core.specs.Legs.{OpensWith, StaysInLeg}
use Rattle.node_core.specs.View.{NodeView}
use Rattle.svc_graph.specs.declared.definition.Definition.{Definition}
use Rattle.svc_graph.specs.History.{Row, history_of, theory}
use Rattle.svc_value.specs.declared.value.Value.{Value}
use Rattle.settle_core.specs.declared.crew.Crew.{Crew}
use Rattle.settle_core.specs.declared.worker.Worker.{Worker}
use Rattle.settle_core.specs.Legs.{InLeg}
use Rattle.settle_core.specs.Net.{NetworkView, service_at, unborn}
use Rattle.settle_core.specs.Rings.{SameTo, SameFrom}
use Rattle.settle_core.specs.Workers.{AllGoOn, AreOpenings, AreTied, IsGathered, IsIn, SameLeg, end_from, end_to, from_at, node_of, nodes_of, to_at}
use Rattle.settle_core.proofs.RingLemmas.{tied_after}

-- the worker at a place that there is
worker_at : (workers : List Worker) (n : ℕ) → n < length workers → Worker
worker_at [] n less = absurd (omega (arith, less))
worker_at (x ∷ xs) zero less = x
worker_at (x ∷ xs) (suc n) less = worker_at xs n (omega (arith, less))

-- its node, and its ends
node_at : (workers : List Worker) (n : ℕ) (w : Worker) → n < length workers → service_at (nodes_of workers) n ≡ node_of (slice_index_or workers n w)
node_at workers n w less =
    let there : n < length (nodes_of workers) = omega (arith, less, length-map workers (λ (x : Worker). node_of x)) in
    get_or_default (nodes_of workers) n (unborn n) (node_of w) there ∙ get_or-map (λ (x : Worker). node_of x) workers n w

to_there : (workers : List Worker) (a b : ℕ) (w : Worker) → a < length workers → to_at workers a b ≡ end_to b (slice_index_or workers a w)
to_there workers a b w less =
    let rows : List (List (Option PieceOut)) = map (λ (x : Worker). x.wired.to.items) workers in
    let there : a < length rows = omega (arith, less, length-map workers (λ (x : Worker). x.wired.to.items)) in
    ap (λ (row : List (Option PieceOut)). slice_index_or row b None) (get_or_default rows a [] w.wired.to.items there ∙ get_or-map (λ (x : Worker). x.wired.to.items) workers a w)

from_there : (workers : List Worker) (b a : ℕ) (w : Worker) → b < length workers → from_at workers b a ≡ end_from a (slice_index_or workers b w)
from_there workers b a w less =
    let rows : List (List (Option PieceIn)) = map (λ (x : Worker). x.wired.from.items) workers in
    let there : b < length rows = omega (arith, less, length-map workers (λ (x : Worker). x.wired.from.items)) in
    ap (λ (row : List (Option PieceIn)). slice_index_or row a None) (get_or_default rows b [] w.wired.from.items there ∙ get_or-map (λ (x : Worker). x.wired.from.items) workers b w)

to_past : (workers : List Worker) (a b : ℕ) → length workers ≤ a → to_at workers a b ≡ None
to_past workers a b past =
    let rows : List (List (Option PieceOut)) = map (λ (x : Worker). x.wired.to.items) workers in
    ap (λ (row : List (Option PieceOut)). slice_index_or row b None) (get_or_past rows a [] (omega (arith, past, length-map workers (λ (x : Worker). x.wired.to.items))))

from_past : (workers : List Worker) (b a : ℕ) → length workers ≤ b → from_at workers b a ≡ None
from_past workers b a past =
    let rows : List (List (Option PieceIn)) = map (λ (x : Worker). x.wired.from.items) workers in
    ap (λ (row : List (Option PieceIn)). slice_index_or row a None) (get_or_past rows b [] (omega (arith, past, length-map workers (λ (x : Worker). x.wired.from.items))))

-- ---- workers that went on

module _ (old new : List Worker) (go : AllGoOn old new) where
  same_to : (a b : ℕ) → SameTo (to_at old a b) (to_at new a b)
  same_to a b = elim (cases_Bool (ltb a (length old))) [
    | inl t ↦ (let less : a < length old = ltb-true a (length old) t in
        let w : Worker = worker_at old a less in
        let less' : a < length new = omega (arith, less, go.count) in
        let P : Option PieceOut → Type 0 = λ o. SameTo o (to_at new a b) in
        let Q : Option PieceOut → Type 0 = λ o. SameTo (end_to b (slice_index_or old a w)) o in
        subst P (sym (to_there old a b w less)) (subst Q (sym (to_there new a b w less')) ((go.each a w w less).ends.to b)))
    | inr f ↦ (let past : length old ≤ a = ltb-false a (length old) f in
        let P : Option PieceOut → Type 0 = λ o. SameTo o (to_at new a b) in
        let Q : Option PieceOut → Type 0 = λ o. SameTo None o in
        subst P (sym (to_past old a b past)) (subst Q (sym (to_past new a b (omega (arith, past, go.count)))) tt))
  ]

  same_from : (b a : ℕ) → SameFrom (from_at old b a) (from_at new b a)
  same_from b a = elim (cases_Bool (ltb b (length old))) [
    | inl t ↦ (let less : b < length old = ltb-true b (length old) t in
        let w : Worker = worker_at old b less in
        let less' : b < length new = omega (arith, less, go.count) in
        let P : Option PieceIn → Type 0 = λ o. SameFrom o (from_at new b a) in
        let Q : Option PieceIn → Type 0 = λ o. SameFrom (end_from a (slice_index_or old b w)) o in
        subst P (sym (from_there old b a w less)) (subst Q (sym (from_there new b a w less')) ((go.each b w w less).ends.from a)))
    | inr f ↦ (let past : length old ≤ b = ltb-false b (length old) f in
        let P : Option PieceIn → Type 0 = λ o. SameFrom o (from_at new b a) in
        let Q : Option PieceIn → Type 0 = λ o. SameFrom None o in
        subst P (sym (from_past old b a past)) (subst Q (sym (from_past new b a (omega (arith, past, go.count)))) tt))
  ]

  pub tied_go_on : AreTied old → AreTied new
  unfolding AreTied
  tied_go_on tied a b = tied_after (to_at old a b) (to_at new a b) (from_at old b a) (from_at new b a) (tied a b) (same_to a b) (same_from b a)

  -- each node stays in its leg
  node_stays : (n : ℕ) → n < length old → StaysInLeg (service_at (nodes_of old) n) (service_at (nodes_of new) n)
  node_stays n less =
      let w : Worker = worker_at old n less in
      let P : NodeView → Type 0 = λ s. StaysInLeg s (service_at (nodes_of new) n) in
      let Q : NodeView → Type 0 = λ s. StaysInLeg (node_of (slice_index_or old n w)) s in
      subst P (sym (node_at old n w less)) (subst Q (sym (node_at new n w (omega (arith, less, go.count)))) (go.each n w w less).leg)

  -- so openings stay openings
  module _ (rows : List Row) (openings : ℕ → State Value Definition) (are : AreOpenings rows (nodes_of old) openings) where
    opens : (n : ℕ) → n < length old → OpensWith (openings n) (service_at (nodes_of old) n).changes (service_at (nodes_of old) n).roster (service_at (nodes_of new) n)
    opens n less =
        let there : n < length (nodes_of old) = omega (arith, less, length-map old (λ (x : Worker). node_of x)) in
        node_stays n less (openings n) (service_at (nodes_of old) n).changes (service_at (nodes_of old) n).roster (record { reached = are.reached n there; changes_are = refl; roster_is = refl })

    changes_are : (n : ℕ) → (service_at (nodes_of new) n).changes ≡ (service_at (nodes_of old) n).changes
    changes_are n = elim (cases_Bool (ltb n (length old))) [
      | inl t ↦ (opens n (ltb-true n (length old) t)).changes_are
      | inr f ↦ (let past : length old ≤ n = ltb-false n (length old) f in
          ap (λ (s : NodeView). s.changes) (get_or_past (nodes_of new) n (unborn n) (omega (arith, past, go.count, length-map new (λ (x : Worker). node_of x)))
          ∙ sym (get_or_past (nodes_of old) n (unborn n) (omega (arith, past, length-map old (λ (x : Worker). node_of x))))))
    ]

    pub openings_go_on : AreOpenings rows (nodes_of new) openings
    openings_go_on = record {
      book = are.book;
      born = are.born;
      count = length-map new (λ (x : Worker). node_of x) ∙ go.count ∙ sym (length-map old (λ (x : Worker). node_of x)) ∙ are.count;
      rosters = λ n less. let less' : n < length old = omega (arith, less, go.count, length-map new (λ (x : Worker). node_of x)) in
          (opens n less').roster_is ∙ are.rosters n (omega (arith, less', length-map old (λ (x : Worker). node_of x)));
      reached = λ n less. (opens n (omega (arith, less, go.count, length-map new (λ (x : Worker). node_of x)))).reached;
      others = λ n past. are.others n (omega (arith, past, go.count, length-map new (λ (x : Worker). node_of x), length-map old (λ (x : Worker). node_of x)));
      together = are.together;
      of_book = are.of_book;
      start = λ n. are.start n ∙ ap (λ (k : ℕ). length (history_of rows n) - k) (sym (ap (λ (cs : List _). length cs) (changes_are n)));
    }

-- ---- the same leg

-- The network that is put together of a crew is in each leg that its openings make, also after events.
pub gathered_same_leg : (net new : NetworkView) (after : Crew) (openings : ℕ → State Value Definition) → after.book ≡ net.rows → AreOpenings after.book (nodes_of after.workers.items) openings →
    ((g : Leg Value Definition) (low : ℕ → Stamps) (before : ℕ → List (TheEntry Value)) → InLeg net g low before → gathered_leg (theory net.rows) openings ≡ g) → IsGathered after new → SameLeg net new
gathered_same_leg net new after openings book are gathered_is together = record {
  rows = together.rows ∙ book;
  leg = λ g low before is.
      let same : gathered_leg (theory new.rows) openings ≡ g = ap (λ (rows : List Row). gathered_leg (theory rows) openings) (together.rows ∙ book) ∙ gathered_is g low before is in
      let P : Leg Value Definition → Type 0 = λ l. IsIn l new in
      subst P same (together.in_leg openings are);
}
