-- Workers whose nodes and links have joined: they are a network, in the leg that began with their openings.
use Rattle.std.proofs.Common.{◌≡◌, ℕ, ◌-◌, ◌*◌, ◌≤◌, ltb, List, [], ◌++◌, length, inl, inr, refl, sym, ap, ◌∙◌, subst, arith}
use Rattle.std.proofs.lemmas.Bool.{cases_Bool, ltb-true, ltb-false}
use Rattle.std.proofs.lemmas.List.{get_or_past, length-map}
use Rattle.propagation.specs.Lists.{IsOlderPart}
use Rattle.propagation.specs.Logs.{Entry as TheEntry, frames_sent, frames_taken}
use Rattle.propagation.specs.Openings.{Founded}
use Rattle.service_machine.specs.Gathering.{IsLink, gathered_leg}
use Rattle.service_machine.specs.Networks.{NetworkFits}
use Rattle.service_machine.specs.Nodes.{LivesAlone}
use Rattle.service_machine.specs.States.{State}
use Rattle.service_machine.proofs.Gathering.{workers_gather}
use Rattle.link_fifo.specs.Waiting.{Link}
use Rattle.node_core.specs.declared.entry.Entry.{Entry}
use Rattle.node_core.specs.Entries.{IsLog, sent_to}
use Rattle.node_core.specs.Lives.{IsReached, Lives}
use Rattle.node_core.specs.Lives.IsReached.{delivered}
use Rattle.node_core.specs.View.{NodeView}
use Rattle.node_core.proofs.LivesLemmas.{reached_keeps}
use Rattle.svc_graph.specs.declared.definition.Definition.{Definition}
use Rattle.svc_graph.specs.History.{Row, dependencies, history_of, meaning_of, theory}
use Rattle.svc_graph.proofs.Theory.{AreBelow-deps, deps-born}
use Rattle.svc_plan.proofs.BornLemmas.{are_born}
use Rattle.svc_value.specs.declared.value.Value.{Value}
use Rattle.wire_frame.specs.Message.{IsMessage}
use Rattle.wire_frame.proofs.Messages.{one_message}
use Rattle.settle_core.specs.declared.crew.Crew.{Crew}
use Rattle.settle_core.specs.declared.worker.Worker.{Worker}
use Rattle.settle_core.specs.Inside.Joining.{Joins}
use Rattle.settle_core.specs.Inside.Table.{waiting_in}
use Rattle.settle_core.specs.Legs.{IsNetwork}
use Rattle.settle_core.specs.Net.{NetworkView, rank_at, service_at, system_of, took_from, unborn, waits}
use Rattle.settle_core.specs.Workers.{AreOpenings, HaveOpenings, IsGathered, IsIn, nodes_of}
use Rattle.settle_core.proofs.OlderLemmas.{match_older}
use Rattle.settle_core.proofs.ReachedLemmas.{unborn_reached}
use Rattle.settle_core.proofs.RowLemmas.{book_none_twice}
use Rattle.settle_core.proofs.SpellingLemmas.{Spells, log_sent, log_taken}

-- there are at most 64 workers
pub crew_few : (rows : List Row) (workers : List Worker) → HaveOpenings rows (nodes_of workers) → length workers ≤ 64
crew_few rows workers have = omega (arith, have.are.book.few, have.are.count, length-map workers (λ (worker : Worker). worker.wired.node))

module _ (rows : List Row) (workers : List Worker) (nodes : List NodeView) (links : List Link) (j : Joins workers nodes links) (few : length workers ≤ 64) where
  abbrev ws : List NodeView
  ws = nodes_of workers

  abbrev net : NetworkView
  net = record { rows = rows; services = nodes; links = waiting_in links }

  count_is : length ws ≡ length workers
  count_is = length-map workers (λ (worker : Worker). worker.wired.node)

  -- each node is the worker's, with nothing left to be handed over
  node_is : (n : ℕ) → (handed : ℕ) × (service_at nodes n ≡ record (service_at ws n) { outbox = []; handed = handed })
  node_is n = elim (cases_Bool (ltb n (length workers))) [
    | inl t ↦ j.each n (ltb-true n (length workers) t)
    | inr f ↦ (let past : length workers ≤ n = ltb-false n (length workers) f in (
      0,
      get_or_past nodes n (unborn n) (omega (arith, past, j.count))
          ∙ ap (λ (s : NodeView). record s { outbox = []; handed = 0 }) (sym (get_or_past ws n (unborn n) (omega (arith, past, count_is)))),
    ))
  ]

  state_is : (n : ℕ) → (service_at nodes n).state ≡ (service_at ws n).state
  state_is n = ap (λ (s : NodeView). s.state) (node_is n).1

  entries_are : (n : ℕ) → (service_at nodes n).entries ≡ (service_at ws n).entries
  entries_are n = ap (λ (s : NodeView). s.entries) (node_is n).1

  module _ (openings : ℕ → State Value Definition) (are : AreOpenings rows ws openings) where
    -- each lives from its opening
    reached_all : (n : ℕ) → IsReached (openings n) (service_at ws n)
    reached_all n = elim (cases_Bool (ltb n (length ws))) [
      | inl t ↦ are.reached n (ltb-true n (length ws) t)
      | inr f ↦ (let past : length ws ≤ n = ltb-false n (length ws) f in
          let P : NodeView → Type 0 = λ s. IsReached (openings n) s in
          let Q : State Value Definition → Type 0 = λ o. IsReached o (unborn n) in
          subst P (sym (get_or_past ws n (unborn n) past)) (subst Q (sym (are.others n past)) (unborn_reached n)))
    ]

    lives : (n : ℕ) → Lives (openings n) (service_at ws n)
    lives n = (reached_keeps (openings n) (service_at ws n) (reached_all n)).0

    abbrev logs : ℕ → List (TheEntry Value)
    logs n = (lives n).log

    alive : (n : ℕ) → LivesAlone dependencies meaning_of (openings n) (service_at nodes n).state (logs n)
    alive n = let P : State Value Definition → Type 0 = λ s. LivesAlone dependencies meaning_of (openings n) s (logs n) in subst P (sym (state_is n)) (lives n).alive

    -- ---- the links are in order

    in_order : (n p : ℕ) → IsOlderPart (frames_taken p (logs n)) (frames_sent n (logs p))
    in_order n p =
        let took : List (List ℕ) = took_from p (service_at ws n).entries in
        let sent : List (List ℕ) = sent_to n (service_at ws p).entries in
        let sent_is : Spells sent (frames_sent n (logs p)) = log_sent n (service_at ws p).entries (logs p) (lives p).is_log in
        let took_is : Spells took (frames_taken p (logs n)) = log_taken p (service_at ws n).entries (logs n) (lives n).is_log in
        elim (cases_Bool (ltb p 64)) [
          | inl t ↦ (let P : List (List ℕ) → Type 0 = λ bs. Spells bs (frames_sent n (logs p)) in
              match_older IsMessage one_message took (waits (waiting_in links) n p) (frames_sent n (logs p)) (frames_taken p (logs n)) (subst P (j.linked n p (ltb-true p 64 t)) sent_is) took_is)
          | inr f ↦ (let P : List (List ℕ) → Type 0 = λ bs. Spells bs (frames_taken p (logs n)) in
              match_older IsMessage one_message [] sent (frames_sent n (logs p)) (frames_taken p (logs n)) sent_is (subst P (j.past n p (omega (arith, few, ltb-false p 64 f))) took_is))
        ]

    link : (n p : ℕ) → IsLink (frames_sent n (logs p)) (frames_taken p (logs n))
    link n p = record { handed = frames_taken p (logs n); received = frames_taken p (logs n); first_sent = in_order n p; first_handed = ([], refl); all_but_one = inl refl }

    -- ---- the leg

    founded : Founded (theory rows) (rank_at rows)
    founded = record {
      falls = λ n c p has. (AreBelow-deps rows are.book n c).falls p has;
      born = λ n c p has. deps-born rows are.book (are_born rows are.born) n c p has;
    }

    fits : NetworkFits (gathered_leg (theory rows) openings) (rank_at rows) (system_of nodes logs)
    fits = workers_gather Value Definition (theory rows) (rank_at rows) openings (system_of nodes logs) founded (book_none_twice rows are.book) are.together are.of_book alive link

    is_in : IsIn (gathered_leg (theory rows) openings) net
    is_in = record {
      low = fits.low;
      logs = logs;
      is = record {
        book = refl;
        start = λ n. are.start n ∙ ap (λ (s : NodeView). length (history_of rows n) - length s.changes) (sym (node_is n).1);
        accepted = fits.accepted;
        lows = fits.floors;
        fits = fits.fits;
        are_logs = λ n. let P : List Entry → Type 0 = λ es. IsLog es (logs n) in subst P (sym (entries_are n)) (lives n).is_log;
      };
    }

    pub together_network : IsNetwork net
    together_network = record {
      book = are.book;
      born = are.born;
      count = j.count ∙ sym count_is ∙ are.count;
      table = length-map links (λ (l : Link). l.waiting) ∙ j.table ∙ ap (λ k. k * 64) (sym count_is ∙ are.count);
      rosters = λ n less. ap (λ (s : NodeView). s.roster) (node_is n).1 ∙ are.rosters n (omega (arith, less, j.count, count_is));
      reached = λ n less. (openings n, delivered (reached_all n) (state_is n) (entries_are n));
      handed = λ n. ap (λ (s : NodeView). s.outbox) (node_is n).1;
      linked = λ n p lt. ap (λ (es : List Entry). sent_to n es) (entries_are p) ∙ j.linked n p lt ∙ ap (λ (es : List Entry). took_from p es ++ waits (waiting_in links) n p) (sym (entries_are n));
      has_leg = record { leg = gathered_leg (theory rows) openings; low = is_in.low; logs = is_in.logs; is = is_in.is };
    }

  pub is_gathered : (crew : Crew) → crew.book ≡ rows → crew.workers.items ≡ workers → IsGathered crew net
  is_gathered crew book same = record {
    rows = sym book;
    nodes = λ n. let P : List Worker → Type 0 = λ vs. (handed : ℕ) × (service_at nodes n ≡ record (service_at (nodes_of vs) n) { outbox = []; handed = handed }) in subst P (sym same) (node_is n);
    in_leg = λ openings are.
        let P : List Row → Type 0 = λ rs. AreOpenings rs ws openings in
        let Q : List Worker → Type 0 = λ vs. AreOpenings crew.book (nodes_of vs) openings in
        is_in openings (subst P book (subst Q same are));
  }
