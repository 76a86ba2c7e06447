-- A network whose leg has just begun, and its workers: their openings, and the leg that they are in.
use Rattle.std.proofs.Common.{◌≡◌, ℕ, zero, suc, ◌+◌, ◌<◌, List, [], ◌∷◌, ◌++◌, map, length, slice_get, slice_index_or, Option, Some, None, refl, sym, ap, ap₂, ◌∙◌, subst, arith, inl, inr, unwrap_or, option_to_list}
use Rattle.std.specs.Option.{IsSome}
use Rattle.std.proofs.lemmas.Bool.{cases_Bool, cond-false}
use Rattle.std.proofs.lemmas.List.{get_or_past, length-map}
use Rattle.propagation.specs.Lists.{Has, is_among}
use Rattle.propagation.specs.History.{Book, definition_at, deps, edge, now}
use Rattle.propagation.specs.Logs.{Entry as TheEntry, Leg}
use Rattle.propagation.specs.Stamps.{Stamps}
use Rattle.propagation.proofs.Edges.{Has-is_among}
use Rattle.service_machine.specs.Gathering.{AreOpening, AreOf, gathered_leg}
use Rattle.service_machine.specs.Networks.{NetworkFits}
use Rattle.service_machine.specs.States.{State, services}
use Rattle.service_machine.specs.Steps.{targets}
use Rattle.service_machine.proofs.Parting.{workers_part}
use Rattle.svc_graph.specs.declared.definition.Definition.{Definition}
use Rattle.svc_graph.specs.History.{Row, at_clock, dependencies, history_of, theory}
use Rattle.svc_graph.proofs.Theory.{AreBelow-definition, AreBelow-deps, definition-at_clock}
use Rattle.svc_value.specs.declared.value.Value.{Value}
use Rattle.link_fifo.specs.declared.piece_in.PieceIn.{PieceIn}
use Rattle.link_fifo.specs.declared.piece_out.PieceOut.{PieceOut}
use Rattle.node_core.specs.declared.entry.Entry.{Entry}
use Rattle.node_core.specs.Entries.{IsLog, sent_to}
use Rattle.node_core.specs.Lives.{IsReached}
use Rattle.node_core.specs.Outbox.{waiting}
use Rattle.node_core.specs.View.{NodeView}
use Rattle.settle_core.specs.declared.crew.Crew.{Crew}
use Rattle.settle_core.specs.declared.wired.WiredNode.{WiredNode}
use Rattle.settle_core.specs.declared.worker.Worker.{Worker}
use Rattle.settle_core.specs.Inside.Parting.{AreLaid, ArePaired, AreUnwired, AreWorkers, IsServed, ReadWithin}
use Rattle.settle_core.specs.Inside.Working.{from_in, from_of, held_in, held_of, to_in, to_of, wired_nodes, IsOf, IsWorker}
use Rattle.settle_core.specs.Legs.{InLeg, IsNetwork}
use Rattle.settle_core.specs.Net.{NetworkView, rank_at, service_at, system_of, took_from, unborn}
use Rattle.settle_core.specs.Rings.{handed_to, received_from, IsTied}
use Rattle.settle_core.specs.Running.{Goes}
use Rattle.settle_core.specs.Workers.{AllGoOn, AreOpenings, AreTied, HasBegun, HaveOpenings, IsCrewOf, IsGathered, SameLeg, from_at, nodes_of, to_at}
use Rattle.settle_core.proofs.GatherLemmas.{gathered_same_leg, openings_go_on, tied_go_on}
use Rattle.settle_core.proofs.PartLemmas.{in_row, wired_at}
use Rattle.settle_core.proofs.PremiseLemmas.{edge_deps, none_twice}
use Rattle.settle_core.proofs.ReachedLemmas.{begun_is}
use Rattle.settle_core.proofs.RowLemmas.{born_declared, reads_some}

-- ---- a network whose leg has just begun

module _ (net : NetworkView) (is : IsNetwork net) (begun : HasBegun net) where
  abbrev states : ℕ → State Value Definition
  states n = (service_at net.services n).state

  pub reached_begun : (n : ℕ) → n < length net.services → IsReached (states n) (service_at net.services n)
  reached_begun n less =
      let w = is.reached n less in
      subst (λ (o : State Value Definition). IsReached o (service_at net.services n)) (sym (begun_is w.0 (service_at net.services n) w.1 (begun n))) w.1

  module _ (g : Leg Value Definition) (low : ℕ → Stamps) (logs : ℕ → List (TheEntry Value)) (leg : InLeg net g low logs) where
    no_log : (n : ℕ) → logs n ≡ []
    no_log n = let P : List Entry → Type 0 = λ es. IsLog es (logs n) in subst P (begun n) (leg.are_logs n)

    fits : NetworkFits g (rank_at net.rows) (system_of net.services logs)
    fits = record { low = low; accepted = leg.accepted; apart = none_twice net is g low logs leg; fits = leg.fits; floors = leg.lows }

    parts : AreOpening g.book states × AreOf g.book states × (gathered_leg g.book states ≡ g)
    parts = workers_part Value Definition g (rank_at net.rows) (system_of net.services logs) fits no_log

    together : AreOpening (theory net.rows) states
    together = subst (λ (b : Book Value Definition). AreOpening b states) leg.book parts.0

    of_book : AreOf (theory net.rows) states
    of_book = subst (λ (b : Book Value Definition). AreOf b states) leg.book parts.1

    -- the leg is the one that begins with the states as openings
    pub gathered_is : gathered_leg (theory net.rows) states ≡ g
    gathered_is = subst (λ (b : Book Value Definition). gathered_leg b states ≡ g) leg.book parts.2

    pub begun_openings : AreOpenings net.rows net.services states
    begun_openings = record {
      book = is.book;
      born = is.born;
      count = is.count;
      rosters = is.rosters;
      reached = reached_begun;
      others = λ n past. ap (λ (s : NodeView). s.state) (get_or_past net.services n (unborn n) past);
      together = together;
      of_book = of_book;
      start = λ n. ap (λ (l : Leg Value Definition). l.start n) gathered_is ∙ leg.start n;
    }

  -- ---- what each node reads is declared

  abbrev the_leg : Leg Value Definition
  the_leg = is.has_leg.leg

  edges_are : (n : ℕ) → n < length net.rows → targets (states n).edges ≡ deps (theory net.rows) n (states n).own
  edges_are n less = edge_deps net is is.has_leg.leg is.has_leg.low is.has_leg.logs is.has_leg.is n less

  defined_at : (n c : ℕ) (d : Definition) → at_clock (history_of net.rows n) c ≡ Some d → definition_at (theory net.rows) n c ≡ Some d
  defined_at n c d found = definition-at_clock net.rows n c ∙ found

  pub read_within : (nodes : List NodeView) → nodes ≡ net.services → ReadWithin net.rows nodes
  read_within nodes same = subst (λ (ns : List NodeView). ReadWithin net.rows ns) (sym same) (record {
    by_edges = λ n q less has. (AreBelow-deps net.rows is.book n (states n).own).declared q (subst (λ (ps : List ℕ). Has ps q) (edges_are n less) has);
    to_come = λ n c q d less found has. (AreBelow-definition net.rows is.book n c d (defined_at n c d found)).declared q has;
  })

  -- ---- its workers

  has_get : {A : Type 0} (xs : List A) (x : A) → Has xs x → (i : ℕ) × (slice_get xs i ≡ Some x)
  has_get [] x has = absurd has
  has_get (y ∷ xs) x (inl e) = (0, ap (λ (z : _). Some z) e)
  has_get (y ∷ xs) x (inr h) = (let w = has_get xs x h in (suc w.0, w.1))

  edge_has : (b : Book Value Definition) (n p c e : ℕ) → edge b n p c ≡ Some e → Has (deps b n c) p × (0 < c)
  edge_has b n p zero e found = absurd (cc found)
  edge_has b n p (suc c) e found = elim (cases_Bool (is_among (deps b n (suc c)) p)) [
    | inl t ↦ (Has-is_among (deps b n (suc c)) p t, omega arith)
    | inr f ↦ absurd (let none : None ≡ Some e = sym (cond-false (is_among (deps b n (suc c)) p) (Some (unwrap_or (edge b n p c) (suc c))) None f) ∙ found in cc none)
  ]

  module _ (all : List WiredNode) (nodes : wired_nodes all ≡ net.services) (laid : AreLaid all) (paired : ArePaired all) (served : (n : ℕ) → n < length net.rows → IsServed n (history_of net.rows n) all) where
    count_is : length all ≡ length net.rows
    count_is = sym (length-map all (λ (w : WiredNode). w.node)) ∙ ap (λ (ns : List NodeView). length ns) nodes ∙ is.count

    module _ (n : ℕ) (w : WiredNode) (less : n < length all) (at : w ≡ slice_index_or all n w) where
      declared : n < length net.rows
      declared = omega (arith, less, count_is)

      node_is : w.node ≡ service_at net.services n
      node_is = sym (wired_at all n w less at) ∙ ap (λ (ns : List NodeView). service_at ns n) nodes

      to_row : (q : ℕ) → to_in all n q ≡ to_of w q
      to_row q = in_row (λ (x : WiredNode). x.to.items) all n w less at q

      from_row : (p : ℕ) → from_in all n p ≡ from_of w p
      from_row p = in_row (λ (x : WiredNode). x.from.items) all n w less at p

      held_row : (p : ℕ) → held_in all n p ≡ held_of w p
      held_row p = in_row (λ (x : WiredNode). x.held.items) all n w less at p

      entries : w.node.entries ≡ []
      entries = ap (λ (s : NodeView). s.entries) node_is ∙ begun n

      outbox : w.node.outbox ≡ []
      outbox = ap (λ (s : NodeView). s.outbox) node_is ∙ is.handed n

      there : (q : ℕ) → IsSome (to_in all n q) → IsSome (to_of w q)
      there q some = subst (λ (o : Option PieceOut). IsSome o) (to_row q) some

      state_is : w.node.state ≡ states n
      state_is = ap (λ (s : NodeView). s.state) node_is

      own_is : (service_at (wired_nodes all) n).state.own ≡ (states n).own
      own_is = ap (λ (ns : List NodeView). (service_at ns n).state.own) nodes

      leg_openings : AreOpenings net.rows net.services states
      leg_openings = begun_openings is.has_leg.leg is.has_leg.low is.has_leg.logs is.has_leg.is

      by_left : (d : Definition) (q : ℕ) → Has (states n).left d → Has (dependencies d) q → IsSome (to_in all n q)
      by_left d q has names =
          let w = has_get (states n).left d has in
          let found : at_clock (history_of net.rows n) (suc ((states n).own + w.0)) ≡ Some d = sym (definition-at_clock net.rows n (suc ((states n).own + w.0))) ∙ leg_openings.of_book.left_is n w.0 ∙ w.1 in
          ((served n declared).to_come (suc ((states n).own + w.0)) q d (omega (arith, own_is)) found names).0

      by_readers : (q : ℕ) → Has (services (states n).readers) q → IsSome (to_in all n q)
      by_readers q has =
          let reads = reads_some (states n).readers q has in
          let edge_is : edge (theory net.rows) q n (states q).own ≡ Some reads.0 = sym (leg_openings.together.read_by n q) ∙ reads.1 in
          let dep = edge_has (theory net.rows) q n (states q).own reads.0 edge_is in
          let all_q : now (theory net.rows) q ≡ (states q).own + length (states q).left = leg_openings.of_book.all q in
          let q_declared : q < length net.rows = born_declared net.rows q (omega (arith, dep.1, all_q)) in
          ((served q q_declared).by_edges n (subst (λ (ns : List NodeView). Has (targets (service_at ns q).state.edges) n) (sym nodes) (subst (λ (ps : List ℕ). Has ps n) (sym (edges_are q q_declared)) dep.0))).1

      tied_some : (o : Option PieceOut) (i : Option PieceIn) → IsTied o i → IsSome i → IsSome o
      tied_some None None t some = some
      tied_some None (Some i) t some = absurd t
      tied_some (Some o) i t some = refl

      log_of : IsOf n w.node
      log_of = record {
        opening = states n;
        reached = subst (λ (s : NodeView). IsReached (states n) s) (sym node_is) (reached_begun n (omega (arith, less, count_is, is.count)));
        id_is = is.has_leg.is.fits.ids n;
      }

      worker_of : IsWorker w
      worker_of = record {
        handed = λ q. ap (sent_to q) entries ∙ sym (ap₂ (λ (xs ys : List (List ℕ)). xs ++ ys) (ap handed_to (sym (to_row q)) ∙ laid.handed n q) (ap (waiting q) outbox));
        received = λ p. ap received_from (sym (from_row p)) ∙ laid.received n p ∙ sym (ap₂ (λ (xs : List (List ℕ)) (o : Option (List ℕ)). xs ++ option_to_list o) (ap (took_from p) entries) (sym (held_row p) ∙ laid.held n p));
        speaks = record {
          edges = λ q has. there q ((served n declared).by_edges q (subst (λ (ns : List NodeView). Has (targets (service_at ns n).state.edges) q) (sym nodes) (subst (λ (s : State Value Definition). Has (targets s.edges) q) state_is has))).0;
          left = λ d q has names. there q (by_left d q (subst (λ (s : State Value Definition). Has s.left d) state_is has) names);
          readers = λ q has. there q (by_readers q (subst (λ (s : State Value Definition). Has (services s.readers) q) state_is has));
          sent = λ q some. absurd (some (ap (sent_to q) entries));
        };
        both = λ p some. there p (paired p n (tied_some (to_in all p n) (from_in all n p) (laid.tied p n) (subst (λ (o : Option PieceIn). IsSome o) (sym (from_row p)) some)));
      }

    -- an item that is there is the same whatever stands for one that is not
    at_place : (xs : List WiredNode) (i : ℕ) (w : WiredNode) → i < length xs → slice_index_or xs i w ≡ slice_index_or xs i (slice_index_or xs i w)
    at_place [] i w less = absurd (omega (arith, less))
    at_place (x ∷ xs) zero w less = refl
    at_place (x ∷ xs) (suc i) w less = at_place xs i w (omega (arith, less))

    pub are_workers : AreWorkers all
    are_workers = record {
      logs = λ n w less. log_of n (slice_index_or all n w) less (at_place all n w less);
      each = λ n w less. worker_of n (slice_index_or all n w) less (at_place all n w less);
    }

-- nodes without rings are laid
pub unwired_laid : (nodes : List NodeView) (all : List WiredNode) → AreUnwired nodes all → AreLaid all
unwired_laid nodes all is = record {
  tied = λ a b. subst (λ (o : Option PieceOut). IsTied o (from_in all b a)) (sym (is.to a b)) (subst (λ (o : Option PieceIn). IsTied None o) (sym (is.from b a)) tt);
  handed = λ a b. ap handed_to (is.to a b);
  received = λ b a. ap received_from (is.from b a);
  held = is.held;
}

pub unwired_paired : (nodes : List NodeView) (all : List WiredNode) → AreUnwired nodes all → ArePaired all
unwired_paired nodes all is a b some = absurd (cc (subst (λ (o : Option PieceOut). IsSome o) (is.to a b) some))

twice : {B : Type 0} (f : WiredNode → B) (xs : List Worker) → map (λ (worker : Worker). f worker.wired) xs ≡ map f (map (λ (worker : Worker). worker.wired) xs)
twice f [] = refl
twice {B} f (x ∷ xs) = ap (λ (ys : List B). f x.wired ∷ ys) (twice f xs)

-- the ends of the workers are those of the wired nodes
pub workers_tied : (workers : List Worker) (all : List WiredNode) → map (λ (worker : Worker). worker.wired) workers ≡ all → AreLaid all → AreTied workers
unfolding AreTied
workers_tied workers all same laid a b =
    let to : to_at workers a b ≡ to_in all a b = ap (λ (rows : List (List (Option PieceOut))). slice_index_or (slice_index_or rows a []) b None) (twice (λ (w : WiredNode). w.to.items) workers ∙ ap (λ (xs : List WiredNode). map (λ (w : WiredNode). w.to.items) xs) same) in
    let from : from_at workers b a ≡ from_in all b a = ap (λ (rows : List (List (Option PieceIn))). slice_index_or (slice_index_or rows b []) a None) (twice (λ (w : WiredNode). w.from.items) workers ∙ ap (λ (xs : List WiredNode). map (λ (w : WiredNode). w.from.items) xs) same) in
    subst (λ (o : Option PieceOut). IsTied o (from_at workers b a)) (sym to) (subst (λ (o : Option PieceIn). IsTied (to_in all a b) o) (sym from) (laid.tied a b))

pub workers_nodes : (workers : List Worker) → nodes_of workers ≡ wired_nodes (map (λ (worker : Worker). worker.wired) workers)
workers_nodes [] = refl
workers_nodes (x ∷ xs) = ap (λ (ns : List NodeView). x.wired.node ∷ ns) (workers_nodes xs)

pub counted : (all : List WiredNode) (nodes : List NodeView) → wired_nodes all ≡ nodes → length all ≡ length nodes
counted all nodes same = sym (length-map all (λ (w : WiredNode). w.node)) ∙ ap (λ (ns : List NodeView). length ns) same

-- and so are those of the wired nodes where the workers' are
pub tied_wired : (workers : List Worker) (all : List WiredNode) → map (λ (worker : Worker). worker.wired) workers ≡ all → AreTied workers → (a b : ℕ) → IsTied (to_in all a b) (from_in all b a)
unfolding AreTied
tied_wired workers all same tied a b =
    let to : to_at workers a b ≡ to_in all a b = ap (λ (rows : List (List (Option PieceOut))). slice_index_or (slice_index_or rows a []) b None) (twice (λ (w : WiredNode). w.to.items) workers ∙ ap (λ (xs : List WiredNode). map (λ (w : WiredNode). w.to.items) xs) same) in
    let from : from_at workers b a ≡ from_in all b a = ap (λ (rows : List (List (Option PieceIn))). slice_index_or (slice_index_or rows b []) a None) (twice (λ (w : WiredNode). w.from.items) workers ∙ ap (λ (xs : List WiredNode). map (λ (w : WiredNode). w.from.items) xs) same) in
    subst (λ (o : Option PieceOut). IsTied o (from_in all b a)) to (subst (λ (o : Option PieceIn). IsTied (to_at workers a b) o) from (tied a b))

-- ---- its workers after the leg

module _ (net : NetworkView) (is : IsNetwork net) (begun : HasBegun net) (crew : Crew) (of : IsCrewOf net crew) where
  abbrev opened : ℕ → State Value Definition
  opened n = (service_at net.services n).state

  crew_openings : (workers : List Worker) → AllGoOn crew.workers.items workers → AreOpenings net.rows (nodes_of workers) opened
  crew_openings workers go =
      let P : List NodeView → Type 0 = λ ns. AreOpenings net.rows ns opened in
      let are : AreOpenings net.rows net.services opened = begun_openings net is begun is.has_leg.leg is.has_leg.low is.has_leg.logs is.has_leg.is in
      openings_go_on crew.workers.items workers go net.rows opened (subst P (sym of.nodes) are)

-- a crew whose workers went on has openings, and its rings are tied
pub crew_goes_on : (net : NetworkView) (crew : Crew) (workers : List Worker) → IsNetwork net → HasBegun net → IsCrewOf net crew → AllGoOn crew.workers.items workers → HaveOpenings net.rows (nodes_of workers) × AreTied workers
crew_goes_on net crew workers is begun of go =
    (record { openings = λ n. (service_at net.services n).state; are = crew_openings net is begun crew of workers go }, tied_go_on crew.workers.items workers go of.tied)

-- and the network that is put together of them is in the same leg
pub crew_same_leg : (net new : NetworkView) (crew after : Crew) → IsNetwork net → HasBegun net → IsCrewOf net crew → AllGoOn crew.workers.items after.workers.items → after.book ≡ crew.book → IsGathered after new → SameLeg net new
crew_same_leg net new crew after is begun of go book together =
    let P : List Row → Type 0 = λ rows. AreOpenings rows (nodes_of after.workers.items) (λ n. (service_at net.services n).state) in
    gathered_same_leg net new after (λ n. (service_at net.services n).state) (book ∙ of.book) (subst P (sym (book ∙ of.book)) (crew_openings net is begun crew of after.workers.items go))
    (λ g low before leg. gathered_is net is begun g low before leg) together

-- events stay in the leg
pub goes_same_leg : (old mid new : NetworkView) → SameLeg old mid → Goes mid new → SameLeg old new
goes_same_leg old mid new same goes = record {
  rows = goes.rows ∙ same.rows;
  leg = λ g low before is. let m = same.leg g low before is in let r = goes.runs g m.low m.logs m.is in record { low = m.low; logs = r.logs; is = r.in_leg };
}
