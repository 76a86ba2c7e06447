-- The nodes and the links of workers that have joined.
use Rattle.std.proofs.Common.{◌≡◌, ℕ, ◌*◌, ◌<◌, ◌≤◌, ltb, List, [], ◌∷◌, ◌++◌, zero, suc, map, length, slice_index_or, Option, Some, None, refl, sym, ap, ap₂, ◌∙◌, subst, arith, inl, inr, append_assoc, option_to_list}
use Rattle.std.specs.Option.{IsSome}
use Rattle.std.proofs.lemmas.Bool.{cases_Bool, ltb-true, ltb-false}
use Rattle.std.proofs.lemmas.List.{get_or_past, length-map}
use Rattle.link_fifo.specs.Waiting.{Link}
use Rattle.link_fifo.specs.declared.piece_in.PieceIn.{PieceIn}
use Rattle.link_fifo.specs.declared.piece_out.PieceOut.{PieceOut}
use Rattle.node_core.specs.Entries.{sent_to}
use Rattle.node_core.specs.Outbox.{waiting}
use Rattle.node_core.specs.View.{NodeView}
use Rattle.settle_core.specs.declared.wired.WiredNode.{WiredNode}
use Rattle.settle_core.specs.declared.worker.Worker.{Worker}
use Rattle.settle_core.specs.Inside.Joining.{AllKept, AreGathered, EachLinked, HandedBelow, Joins}
use Rattle.settle_core.specs.Inside.Table.{waiting_in}
use Rattle.settle_core.specs.Inside.Working.{from_in, from_of, held_in, held_of, to_in, to_of, wired_nodes, IsWorker}
use Rattle.settle_core.specs.Net.{place_of, service_at, took_from, unborn, waits}
use Rattle.settle_core.specs.Rings.{handed_to, received_from, IsTied}
use Rattle.settle_core.specs.Workers.{AreTied, nodes_of}
use Rattle.settle_core.proofs.CrewLemmas.{tied_wired, workers_nodes}
use Rattle.settle_core.proofs.PartLemmas.{from_row, held_row, in_row, to_row, wired_at}

-- ---- wired nodes that keep what workers keep, with rings that are tied

module _ (all : List WiredNode) (kept : AllKept all) (tied : (a b : ℕ) → IsTied (to_in all a b) (from_in all b a)) where
  -- there are no ends at a place past the last
  to_past : (a b : ℕ) → length all ≤ a → to_in all a b ≡ None
  to_past a b le = ap (λ (r : List (Option PieceOut)). slice_index_or r b None) (get_or_past (map to_row all) a [] (omega (arith, le, length-map all to_row)))

  from_past : (b a : ℕ) → length all ≤ b → from_in all b a ≡ None
  from_past b a le = ap (λ (r : List (Option PieceIn)). slice_index_or r a None) (get_or_past (map from_row all) b [] (omega (arith, le, length-map all from_row)))

  from_none : (o : Option PieceOut) (i : Option PieceIn) → IsTied o i → o ≡ None → i ≡ None
  from_none None None t e = refl
  from_none None (Some i) t e = absurd t
  from_none (Some o) i t e = absurd (cc e)

  to_none : (o : Option PieceOut) (i : Option PieceIn) → IsTied o i → i ≡ None → o ≡ None
  to_none None i t e = refl
  to_none (Some o) None t e = absurd t
  to_none (Some o) (Some i) t e = absurd (cc e)

  nothing_some : (o : Option PieceOut) → o ≡ None → IsSome o → ⊥
  nothing_some None e some = cc some
  nothing_some (Some o) e some = cc e

  item_at : (xs : List WiredNode) (i : ℕ) → i < length xs → (x : WiredNode) × (x ≡ slice_index_or xs i x)
  item_at [] i less = absurd (omega (arith, less))
  item_at (x ∷ xs) zero less = (x, refl)
  item_at (x ∷ xs) (suc i) less = item_at xs i (omega (arith, less))

  module _ (n : ℕ) (less : n < length all) where
    abbrev w : WiredNode
    w = (item_at all n less).0

    is : w ≡ slice_index_or all n w
    is = (item_at all n less).1

    node_is : service_at (wired_nodes all) n ≡ w.node
    node_is = wired_at all n w less is

    keeps : IsWorker w
    keeps = subst (λ (x : WiredNode). IsWorker x) (sym is) (kept n w less)

    to_at : (q : ℕ) → to_in all n q ≡ to_of w q
    to_at q = in_row to_row all n w less is q

    from_at : (p : ℕ) → from_in all n p ≡ from_of w p
    from_at p = in_row from_row all n w less is p

    held_at : (p : ℕ) → held_in all n p ≡ held_of w p
    held_at p = in_row held_row all n w less is p

    sent_is : (q : ℕ) → sent_to q (service_at (wired_nodes all) n).entries ≡ handed_to (to_in all n q) ++ waiting q (service_at (wired_nodes all) n).outbox
    sent_is q = ap (λ (s : NodeView). sent_to q s.entries) node_is ∙ keeps.handed q ∙ ap₂ (λ (o : Option PieceOut) (s : NodeView). handed_to o ++ waiting q s.outbox) (sym (to_at q)) (sym node_is)

    received_is : (p : ℕ) → received_from (from_in all n p) ≡ took_from p (service_at (wired_nodes all) n).entries ++ option_to_list (held_in all n p)
    received_is p = ap received_from (from_at p) ∙ keeps.received p ∙ ap₂ (λ (s : NodeView) (o : Option (List ℕ)). took_from p s.entries ++ option_to_list o) (sym node_is) (sym (held_at p))

    -- it sends nothing to a service to which it has no ring
    sent_none : (q : ℕ) → to_in all n q ≡ None → sent_to q (service_at (wired_nodes all) n).entries ≡ []
    sent_none q none = empty (sent_to q (service_at (wired_nodes all) n).entries) (λ some.
        nothing_some (to_of w q) (sym (to_at q) ∙ none) (keeps.speaks.sent q (λ e. some (ap (λ (s : NodeView). sent_to q s.entries) node_is ∙ e))))
      where
        empty : {A : Type 0} (xs : List A) → ((xs ≡ [] → ⊥) → ⊥) → xs ≡ []
        empty [] never = refl
        empty (x ∷ xs) never = absurd (never (λ e. cc e))

    took_none : (p : ℕ) → from_in all n p ≡ None → took_from p (service_at (wired_nodes all) n).entries ≡ []
    took_none p none = front (took_from p (service_at (wired_nodes all) n).entries) (option_to_list (held_in all n p)) (sym (received_is p) ∙ ap received_from none)
      where
        front : {A : Type 0} (xs ys : List A) → xs ++ ys ≡ [] → xs ≡ []
        front [] ys e = refl
        front (x ∷ xs) ys e = absurd (cc e)

  -- none takes anything from a service past the last
  pub took_past : (n p : ℕ) → length all ≤ p → took_from p (service_at (wired_nodes all) n).entries ≡ []
  took_past n p past = elim (cases_Bool (ltb n (length all))) [
    | inl t ↦ took_none n (ltb-true n (length all) t) p (from_none (to_in all p n) (from_in all n p) (tied p n) (to_past p n past))
    | inr f ↦ ap (λ (s : NodeView). took_from p s.entries) (get_or_past (wired_nodes all) n (unborn n) (omega (arith, ltb-false n (length all) f, length-map all (λ (w : WiredNode). w.node))))
  ]

  -- what it sends nothing to, it has nothing left for
  waiting_none : (n q : ℕ) → n < length all → to_in all n q ≡ None → waiting q (service_at (wired_nodes all) n).outbox ≡ []
  waiting_none n q less none =
      back (handed_to (to_in all n q)) (waiting q (service_at (wired_nodes all) n).outbox) (sym (sent_is n less q) ∙ sent_none n less q none)
    where
      back : {A : Type 0} (xs ys : List A) → xs ++ ys ≡ [] → ys ≡ []
      back [] ys e = e
      back (x ∷ xs) ys e = absurd (cc e)

  -- each frame that is left has a link
  pub each_linked : (few : length all ≤ 64) (nodes : List NodeView) (count : ℕ) → nodes ≡ wired_nodes all → count ≡ length all * 64 → EachLinked nodes count
  each_linked few nodes count same table = subst (λ (ns : List NodeView). EachLinked ns count) (sym same) (λ n q less some.
      let n_less : n < length all = omega (arith, less, length-map all (λ (w : WiredNode). w.node)) in
      elim (cases_Bool (ltb q (length all))) [
        | inl t ↦ (let q_less : q < length all = ltb-true q (length all) t in omega (arith, n_less, q_less, few, table))
        | inr f ↦ absurd (some (waiting_none n q n_less (to_none (to_in all n q) (from_in all q n) (tied n q) (from_past q n (ltb-false q (length all) f)))))
      ])

  -- ---- what is in the links

  module _ (few : length all ≤ 64) (links links' links'' : List Link) (table : length links ≡ length all * 64) (empty : (i : ℕ) → slice_index_or (waiting_in links) i [] ≡ []) (last : List WiredNode) (nodes : List NodeView)
      (gathered : AreGathered all last links links') (handed : HandedBelow (length all) (wired_nodes all) nodes links' links'') where
    joined_in : (n p : ℕ) → n < length all → p < length all → sent_to n (service_at (wired_nodes all) p).entries ≡ took_from p (service_at (wired_nodes all) n).entries ++ waits (waiting_in links'') n p
    joined_in n p n_less p_less =
        let g = gathered.each n p n_less p_less in
        let took = took_from p (service_at (wired_nodes all) n).entries in
        let held = option_to_list (held_in all n p) in
        let left = waiting n (service_at (wired_nodes all) p).outbox in
        let ws : waits (waiting_in links'') n p ≡ (held ++ g.rest) ++ left = handed.done n p p_less ∙ ap (λ (xs : List (List ℕ)). xs ++ left) (g.adds ∙ ap (λ (xs : List (List ℕ)). xs ++ (held ++ g.rest)) (empty (place_of n p))) in
        sent_is p p_less n
        ∙ ap (λ (xs : List (List ℕ)). xs ++ left) (sym g.whole ∙ ap (λ (xs : List (List ℕ)). xs ++ g.rest) (received_is n n_less p) ∙ append_assoc took held g.rest)
        ∙ append_assoc took (held ++ g.rest) left ∙ ap (λ (xs : List (List ℕ)). took ++ xs) (sym ws)

    unborn_at : (n : ℕ) → length all ≤ n → service_at (wired_nodes all) n ≡ unborn n
    unborn_at n le = get_or_past (wired_nodes all) n (unborn n) (omega (arith, le, length-map all (λ (w : WiredNode). w.node)))

    pub joined_linked : (n p : ℕ) → p < 64 → sent_to n (service_at (wired_nodes all) p).entries ≡ took_from p (service_at (wired_nodes all) n).entries ++ waits (waiting_in links'') n p
    joined_linked n p lt =
        elim (cases_Bool (ltb p (length all))) [
          | inl t ↦ elim (cases_Bool (ltb n (length all))) [
            | inl u ↦ joined_in n p (ltb-true n (length all) u) (ltb-true p (length all) t)
            | inr f ↦ (let past : length all ≤ n = ltb-false n (length all) f in
                sent_none p (ltb-true p (length all) t) n (to_none (to_in all p n) (from_in all n p) (tied p n) (from_past n p past))
                ∙ sym (ap₂ (λ (xs ys : List (List ℕ)). xs ++ ys) (ap (λ (s : NodeView). took_from p s.entries) (unborn_at n past))
                (get_or_past (waiting_in links'') (place_of n p) [] (omega (arith, past, length-map links'' (λ (l : Link). l.waiting), handed.table, gathered.table, table)))))
          ]
          | inr f ↦ (let past : length all ≤ p = ltb-false p (length all) f in
              let nothing : waits (waiting_in links'') n p ≡ [] = handed.left n p lt past ∙ gathered.past n p lt past ∙ empty (place_of n p) in
              ap (λ (s : NodeView). sent_to n s.entries) (unborn_at p past)
              ∙ sym (ap₂ (λ (xs ys : List (List ℕ)). xs ++ ys) (elim (cases_Bool (ltb n (length all))) [
                | inl u ↦ took_none n (ltb-true n (length all) u) p (from_none (to_in all p n) (from_in all n p) (tied p n) (to_past p n past))
                | inr g ↦ ap (λ (s : NodeView). took_from p s.entries) (unborn_at n (ltb-false n (length all) g))
              ]) nothing))
        ]

-- ---- the whole

module _ (workers : List Worker) (all last : List WiredNode) (same : map (λ (worker : Worker). worker.wired) workers ≡ all) (kept : AllKept all) (few : length workers ≤ 64) (tied : AreTied workers) where
  nodes_are : nodes_of workers ≡ wired_nodes all
  nodes_are = workers_nodes workers ∙ ap (λ (ws : List WiredNode). wired_nodes ws) same

  count_is : length all ≡ length workers
  count_is = sym (ap (λ (ws : List WiredNode). length ws) same) ∙ length-map workers (λ (worker : Worker). worker.wired)

  pub joins : (links links' links'' : List Link) (nodes : List NodeView) → length links ≡ length workers * 64 → ((i : ℕ) → slice_index_or (waiting_in links) i [] ≡ []) → AreGathered all last links links' →
      HandedBelow (length last) (wired_nodes last) nodes links' links'' → Joins workers nodes links''
  joins links links' links'' nodes table empty gathered handed =
      let last_count : length last ≡ length all = sym (length-map last (λ (w : WiredNode). w.node)) ∙ ap (λ (ns : List NodeView). length ns) gathered.nodes ∙ length-map all (λ (w : WiredNode). w.node) in
      let over : HandedBelow (length all) (wired_nodes all) nodes links' links'' = subst (λ k. HandedBelow k (wired_nodes all) nodes links' links'') last_count (subst (λ (ns : List NodeView). HandedBelow (length last) ns nodes links' links'') gathered.nodes handed) in
      let few_all : length all ≤ 64 = omega (arith, few, count_is) in
      record {
        count = over.count ∙ count_is;
        table = over.table ∙ gathered.table ∙ table;
        each = λ n less. subst (λ (ns : List NodeView). (handed : ℕ) × (service_at nodes n ≡ record (service_at ns n) { outbox = []; handed = handed })) (sym nodes_are) (over.each n (omega (arith, less, count_is)));
        past = λ n p le. subst (λ (ns : List NodeView). took_from p (service_at ns n).entries ≡ []) (sym nodes_are) (took_past all kept (tied_wired workers all same tied) n p (omega (arith, le, count_is)));
        linked = λ n p lt. subst (λ (ns : List NodeView). sent_to n (service_at ns p).entries ≡ took_from p (service_at ns n).entries ++ waits (waiting_in links'') n p) (sym nodes_are)
            (joined_linked all kept (tied_wired workers all same tied) few_all links links' links'' (table ∙ ap (λ k. k * 64) (sym count_is)) empty last nodes gathered over n p lt);
      }
