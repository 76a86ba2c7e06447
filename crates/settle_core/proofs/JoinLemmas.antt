-- Workers join: the ends of each ring are taken out, and what is in flight goes into its link.
use Rattle.std.proofs.Common.{◌≡◌, ◌≢◌, ℕ, zero, suc, ◌+◌, ◌*◌, ◌<◌, ◌≤◌, ◌==◌, ltb, List, [], ◌∷◌, ◌++◌, map, length, slice_index_or, slice_set, Option, None, refl, sym, ap, ap₂, ◌∙◌, subst, arith, inl, inr, eqb-true, option_to_list, length-append}
use Rattle.std.proofs.lemmas.Bool.{cases_Bool, eqb-false, ltb-true, ltb-false}
use Rattle.std.proofs.lemmas.List.{get_or_default, get_or_append_left}
use Rattle.link_fifo.specs.Waiting.{Link}
use Rattle.link_fifo.specs.declared.piece_in.PieceIn.{PieceIn}
use Rattle.link_fifo.specs.declared.piece_out.PieceOut.{PieceOut}
use Rattle.node_core.specs.Outbox.{waiting}
use Rattle.node_core.specs.View.{NodeView}
use Rattle.settle_core.specs.declared.wired.WiredNode.{WiredNode}
use Rattle.settle_core.specs.declared.worker.Worker.{Worker}
use Rattle.settle_core.specs.Inside.Joining.{AddsFrames, AllKept, AreGathered, GatheredBelow, Gathers, HandedBelow, HandsRest, Rejoins, TakesEnds}
use Rattle.settle_core.specs.Inside.Table.{no_link, link_in, waiting_in, Pushed, SameWaiting}
use Rattle.settle_core.specs.Inside.Working.{IsWorker}
use Rattle.settle_core.specs.Net.{place_of, service_at, unborn, waits}
use Rattle.settle_core.specs.Rings.{handed_to, received_from}
use Rattle.settle_core.proofs.BeginLemmas.{snoc_here}
use Rattle.settle_core.proofs.HandingLemmas.{places_differ}
use Rattle.settle_core.proofs.PartLemmas.{from_row, held_row, in_row, map_same, node_at, row_others, to_row}
use Rattle.settle_core.proofs.TableLemmas.{length_set, set_here, set_other, waits_in}

-- ---- one frame

pub adds_one : (reader sender : ℕ) (bytes : List ℕ) (old mid new : List Link) → sender < 64 → place_of reader sender < length old → SameWaiting old mid → Pushed reader sender bytes mid new → AddsFrames reader sender (bytes ∷ []) old new
adds_one reader sender bytes old mid new less there same push = record {
  count = ap (λ (t : List Link). length t) push.table ∙ length_set mid (place_of reader sender) push.link ∙ same.count;
  here = waits_in new reader sender ∙ ap (λ (l : Link). l.waiting) (ap (λ (t : List Link). link_in t reader sender) push.table ∙ set_here mid (place_of reader sender) push.link no_link (omega (arith, there, same.count))) ∙ push.waiting
      ∙ ap (λ (ws : List (List ℕ)). ws ++ bytes ∷ []) (sym (waits_in mid reader sender) ∙ ap (λ (ws : List (List (List ℕ))). waits ws reader sender) same.waiting);
  others = λ q p lt ne. waits_in new q p
      ∙ ap (λ (l : Link). l.waiting) (ap (λ (t : List Link). link_in t q p) push.table ∙ set_other mid (place_of reader sender) (place_of q p) push.link no_link (λ e. ne (places_differ q reader p sender lt less e)))
      ∙ sym (waits_in mid q p) ∙ ap (λ (ws : List (List (List ℕ))). waits ws q p) same.waiting;
}

-- what was taken out is what stood there
pub kept_at : {A : Type 0} (xs : List (Option A)) (i : ℕ) (now taken : Option A) → taken ≡ now → now ≡ slice_index_or xs i now → taken ≡ slice_index_or xs i taken
kept_at {A} xs i now taken same at = subst (λ (o : Option A). o ≡ slice_index_or xs i o) (sym same) at

-- ---- the ends of one ring

module _ (i j reader sender : ℕ) (xs : List WiredNode) (w w' v v' u u' : WiredNode) (at_n : i ≡ reader) (at_p : j ≡ sender) (less_i : i < length xs) (less_j : j < length xs) (few : length xs ≤ 64)
    (is : w ≡ slice_index_or xs j w) (is' : v ≡ slice_index_or (slice_set xs j w') i v) (is'' : u ≡ slice_index_or (slice_set (slice_set xs j w') i v') i u)
    (o1 : Option PieceOut) (to_set : w'.to.items ≡ slice_set w.to.items i o1) (from_w : w'.from.items ≡ w.from.items) (held_w : w'.held.items ≡ w.held.items) (node_w : w'.node ≡ w.node)
    (o2 : Option PieceIn) (from_set : v'.from.items ≡ slice_set v.from.items j o2) (to_v : v'.to.items ≡ v.to.items) (held_v : v'.held.items ≡ v.held.items) (node_v : v'.node ≡ v.node)
    (o3 : Option (List ℕ)) (held_set : u'.held.items ≡ slice_set u.held.items j o3) (to_u : u'.to.items ≡ u.to.items) (from_u : u'.from.items ≡ u.from.items) (node_u : u'.node ≡ u.node)
    (out : Option PieceOut) (into : Option PieceIn) (held : Option (List ℕ)) (out_at : out ≡ slice_index_or w.to.items i out) (into_at : into ≡ slice_index_or v.from.items j into) (held_at : held ≡ slice_index_or u.held.items j held) where
  less_1 : i < length (slice_set xs j w')
  less_1 = omega (arith, less_i, length_set xs j w')

  less_2 : i < length (slice_set (slice_set xs j w') i v')
  less_2 = omega (arith, less_i, length_set xs j w', length_set (slice_set xs j w') i v')

  found : {A : Type 0} (ys : List (Option A)) (k : ℕ) (o : Option A) → k < length ys → o ≡ slice_index_or ys k o → o ≡ slice_index_or ys k None
  found ys k o less same = same ∙ sym (get_or_default ys k None o less)

  to_last : map to_row (slice_set (slice_set (slice_set xs j w') i v') i u') ≡ map to_row (slice_set xs j w')
  to_last = map_same to_row (slice_set (slice_set xs j w') i v') i u u' less_2 is'' to_u ∙ map_same to_row (slice_set xs j w') i v v' less_1 is' to_v

  from_last : map from_row (slice_set (slice_set (slice_set xs j w') i v') i u') ≡ map from_row (slice_set (slice_set xs j w') i v')
  from_last = map_same from_row (slice_set (slice_set xs j w') i v') i u u' less_2 is'' from_u

  from_first : map from_row (slice_set xs j w') ≡ map from_row xs
  from_first = map_same from_row xs j w w' less_j is from_w

  held_first : map held_row (slice_set (slice_set xs j w') i v') ≡ map held_row xs
  held_first = map_same held_row (slice_set xs j w') i v v' less_1 is' held_v ∙ map_same held_row xs j w w' less_j is held_w

  there : TakesEnds i j xs (slice_set (slice_set (slice_set xs j w') i v') i u') out into held
  there = record {
    nodes = map_same node_at (slice_set (slice_set xs j w') i v') i u u' less_2 is'' node_u ∙ map_same node_at (slice_set xs j w') i v v' less_1 is' node_v ∙ map_same node_at xs j w w' less_j is node_w;
    count = length_set (slice_set (slice_set xs j w') i v') i u' ∙ length_set (slice_set xs j w') i v' ∙ length_set xs j w';
    out_is = found w.to.items i out (omega (arith, less_i, few, w.to_wide)) out_at ∙ sym (in_row to_row xs j w less_j is i);
    into_is = found v.from.items j into (omega (arith, less_j, few, v.from_wide)) into_at ∙ sym (in_row from_row (slice_set xs j w') i v less_1 is' j)
        ∙ ap (λ (rows : List (List (Option PieceIn))). slice_index_or (slice_index_or rows i []) j None) from_first;
    held_is = found u.held.items j held (omega (arith, less_j, few, u.held_wide)) held_at ∙ sym (in_row held_row (slice_set (slice_set xs j w') i v') i u less_2 is'' j)
        ∙ ap (λ (rows : List (List (Option (List ℕ)))). slice_index_or (slice_index_or rows i []) j None) held_first;
    to_others = λ a b ne. ap (λ (rows : List (List (Option PieceOut))). slice_index_or (slice_index_or rows a []) b None) to_last ∙ row_others to_row w w' i o1 to_set xs j less_j is a b ne;
    from_others = λ b a ne. ap (λ (rows : List (List (Option PieceIn))). slice_index_or (slice_index_or rows b []) a None) from_last
        ∙ row_others from_row v v' j o2 from_set (slice_set xs j w') i less_1 is' b a ne ∙ ap (λ (rows : List (List (Option PieceIn))). slice_index_or (slice_index_or rows b []) a None) from_first;
    held_others = λ b a ne. row_others held_row u u' j o3 held_set (slice_set (slice_set xs j w') i v') i less_2 is'' b a ne
        ∙ ap (λ (rows : List (List (Option (List ℕ)))). slice_index_or (slice_index_or rows b []) a None) held_first;
  }

  pub ends_taken : TakesEnds reader sender xs (slice_set (slice_set (slice_set xs j w') i v') i u') out into held
  ends_taken = subst (λ k. TakesEnds k sender xs (slice_set (slice_set (slice_set xs j w') i v') i u') out into held) at_n
      (subst (λ k. TakesEnds i k xs (slice_set (slice_set (slice_set xs j w') i v') i u') out into held) at_p there)

-- ---- each pair

pub gathered_none : (all : List WiredNode) (links : List Link) → GatheredBelow 0 all all links links
gathered_none all links = record {
  nodes = refl;
  count = refl;
  table = refl;
  done = λ n p n_less p_less less. absurd (omega (arith, less));
  to_left = λ n p less le. refl;
  from_left = λ n p less le. refl;
  held_left = λ n p less le. refl;
  waits_left = λ n p less side. refl;
}

-- where a number is not the next of a bound, it is below it
lower : (k bound : ℕ) → k < bound + 1 → k ≢ bound → k < bound
lower k bound less ne = elim (cases_Bool (ltb k bound)) [
  | inl t ↦ ltb-true k bound t
  | inr f ↦ (let ge : bound ≤ k = ltb-false k bound f in let e : k ≡ bound = omega (arith, ge, less) in absurd (ne e))
]

module _ (place n p : ℕ) (old mid : List WiredNode) (links links' : List Link) (was : GatheredBelow place old mid links links') (at : place_of n p ≡ place) (p_less : p < 64) where
  apart : (a b : ℕ) → b < 64 → place_of a b ≢ place → (a ≡ n) × (b ≡ p) → ⊥
  apart a b less ne same = ne (ap₂ place_of same.0 same.1 ∙ at)

  -- a pair with services that there are not is passed over
  pub gathered_skip : length old ≤ p → GatheredBelow (place + 1) old mid links links'
  gathered_skip past = record {
    nodes = was.nodes;
    count = was.count;
    table = was.table;
    done = λ a b a_less b_less less. elim (cases_Bool (place_of a b == place)) [
      | inl t ↦ (let same = places_differ a n b p (omega (arith, b_less, few b b_less)) p_less (eqb-true (place_of a b) place t ∙ sym at) in absurd (omega (arith, past, b_less, same.1)))
      | inr f ↦ was.done a b a_less b_less (lower (place_of a b) place less (eqb-false (place_of a b) place f))
    ];
    to_left = λ a b less le. was.to_left a b less (omega (arith, le));
    from_left = λ a b less le. was.from_left a b less (omega (arith, le));
    held_left = λ a b less le. was.held_left a b less (omega (arith, le));
    waits_left = λ a b less side. was.waits_left a b less (elim side [ inl le ↦ inl (omega (arith, le)) | inr le ↦ inr le ]);
  }
    where
      few : (b : ℕ) → b < length old → b < 64
      few b less = omega (arith, less, past, p_less)

  -- the next pair is rejoined
  module _ (few : length old ≤ 64) (p_there : p < length old) (new : List WiredNode) (links'' : List Link) (rejoins : Rejoins n p mid new links' links'') where
    here : place ≤ place_of n p
    here = omega (arith, at)

    gathers : Gathers n p old links links''
    gathers = record {
      rest = rejoins.gathers.rest;
      whole = ap (λ (o : Option PieceIn). received_from o ++ rejoins.gathers.rest) (sym (was.from_left n p p_less here)) ∙ rejoins.gathers.whole ∙ ap handed_to (was.to_left n p p_less here);
      adds = rejoins.gathers.adds ∙ ap₂ (λ (ws : List (List ℕ)) (o : Option (List ℕ)). ws ++ (option_to_list o ++ rejoins.gathers.rest)) (was.waits_left n p p_less (inl here)) (was.held_left n p p_less here);
    }

    stays : (a b : ℕ) → b < 64 → place_of a b ≢ place → Gathers a b old links links' → Gathers a b old links links''
    stays a b less ne g = record { rest = g.rest; whole = g.whole; adds = rejoins.waits_others a b less (apart a b less ne) ∙ g.adds }

    beyond : (a b : ℕ) → place + 1 ≤ place_of a b → place_of a b ≢ place
    beyond a b le e = absurd (omega (arith, le, e))

    pub gathered_next : GatheredBelow (place + 1) old new links links''
    gathered_next = record {
      nodes = rejoins.nodes ∙ was.nodes;
      count = rejoins.count ∙ was.count;
      table = rejoins.table ∙ was.table;
      done = λ a b a_less b_less less. elim (cases_Bool (place_of a b == place)) [
        | inl t ↦ (let same = places_differ a n b p (omega (arith, b_less, few)) p_less (eqb-true (place_of a b) place t ∙ sym at) in
            subst (λ x. Gathers x b old links links'') (sym same.0) (subst (λ x. Gathers n x old links links'') (sym same.1) gathers))
        | inr f ↦ (let ne = eqb-false (place_of a b) place f in stays a b (omega (arith, b_less, few)) ne (was.done a b a_less b_less (lower (place_of a b) place less ne)))
      ];
      to_left = λ a b less le. rejoins.to_others b a (λ e. apart a b less (beyond a b le) (e.1, e.0)) ∙ was.to_left a b less (omega (arith, le));
      from_left = λ a b less le. rejoins.from_others a b (λ e. apart a b less (beyond a b le) (e.0, e.1)) ∙ was.from_left a b less (omega (arith, le));
      held_left = λ a b less le. rejoins.held_others a b (λ e. apart a b less (beyond a b le) (e.0, e.1)) ∙ was.held_left a b less (omega (arith, le));
      waits_left = λ a b less side. elim side [
        | inl le ↦ rejoins.waits_others a b less (apart a b less (beyond a b le)) ∙ was.waits_left a b less (inl (omega (arith, le)))
        | inr past ↦ rejoins.waits_others a b less (λ e. absurd (omega (arith, past, p_there, e.1))) ∙ was.waits_left a b less (inr past)
      ];
    }

pub gathered_all : (place : ℕ) (old new : List WiredNode) (links links' : List Link) → length old ≤ 64 → length old * 64 ≤ place → GatheredBelow place old new links links' → AreGathered old new links links'
gathered_all place old new links links' few whole was = record {
  nodes = was.nodes;
  table = was.table;
  each = λ n p n_less p_less. was.done n p n_less p_less (omega (arith, n_less, p_less, few, whole));
  past = λ n p less le. was.waits_left n p less (inr le);
}

-- ---- what is left in the outboxes

pub handed_none : (nodes : List NodeView) (links : List Link) → HandedBelow 0 nodes [] links links
handed_none nodes links = record { count = refl; each = λ n less. absurd (omega (arith, less)); table = refl; done = λ q p less. absurd (omega (arith, less)); left = λ q p less le. refl }

pub handed_next : (k : ℕ) (nodes mid new : List NodeView) (node : NodeView) (links links' links'' : List Link) → k < 64 → HandedBelow k nodes mid links links' → HandsRest k (service_at nodes k) node links' links'' → new ≡ mid ++ node ∷ [] → HandedBelow (k + 1) nodes new links links''
handed_next k nodes mid new node links links' links'' less was rest is = record {
  count = (let sum : length (mid ++ node ∷ []) ≡ length mid + 1 = length-append mid (node ∷ []) in let all : length new ≡ length (mid ++ node ∷ []) = ap (λ (ns : List NodeView). length ns) is in omega (arith, sum, all, was.count));
  each = each;
  table = rest.table ∙ was.table;
  done = done;
  left = λ q p lt le. rest.others q p lt (λ e. absurd (omega (arith, le, e))) ∙ was.left q p lt (omega (arith, le));
}
  where
    each : (n : ℕ) → n < k + 1 → (handed : ℕ) × (service_at new n ≡ record (service_at nodes n) { outbox = []; handed = handed })
    each n lt = elim (cases_Bool (n == k)) [
      | inl t ↦ (let P : ℕ → Type 0 = λ j. (handed : ℕ) × (service_at new j ≡ record (service_at nodes j) { outbox = []; handed = handed }) in
          subst P (sym (eqb-true n k t)) (rest.handed, ap (λ (ns : List NodeView). service_at ns k) is ∙ ap (λ j. slice_index_or (mid ++ node ∷ []) j (unborn k)) (sym was.count) ∙ snoc_here mid node (unborn k) ∙ rest.node))
      | inr f ↦ (let below = lower n k lt (eqb-false n k f) in let w = was.each n below in
          (w.0, ap (λ (ns : List NodeView). service_at ns n) is ∙ get_or_append_left mid (node ∷ []) (unborn n) n (omega (arith, below, was.count)) ∙ w.1))
    ]

    done : (q p : ℕ) → p < k + 1 → waits (waiting_in links'') q p ≡ waits (waiting_in links) q p ++ waiting q (service_at nodes p).outbox
    done q p lt = elim (cases_Bool (p == k)) [
      | inl t ↦ (let P : ℕ → Type 0 = λ j. waits (waiting_in links'') q j ≡ waits (waiting_in links) q j ++ waiting q (service_at nodes j).outbox in
          subst P (sym (eqb-true p k t)) (rest.here q ∙ ap (λ (ws : List (List ℕ)). ws ++ waiting q (service_at nodes k).outbox) (was.left q k less (omega arith))))
      | inr f ↦ (let ne = eqb-false p k f in let below = lower p k lt ne in rest.others q p (omega (arith, below, less)) ne ∙ was.done q p below)
    ]

-- ---- the workers as wired nodes

map_more : (xs : List Worker) (x : Worker) → map (λ (worker : Worker). worker.wired) (xs ++ x ∷ []) ≡ map (λ (worker : Worker). worker.wired) xs ++ x.wired ∷ []
map_more [] x = refl
map_more (y ∷ xs) x = ap (λ (ws : List WiredNode). y.wired ∷ ws) (map_more xs x)

kept_more : (all : List WiredNode) (x : WiredNode) → IsWorker x → AllKept all → AllKept (all ++ x ∷ [])
kept_more [] x is was zero w less = is
kept_more [] x is was (suc n) w less = absurd (omega (arith, less))
kept_more (y ∷ all) x is was zero w less = was 0 w (omega arith)
kept_more (y ∷ all) x is was (suc n) w less = kept_more all x is (λ k v lt. was (suc k) v (omega (arith, lt))) n w (omega (arith, less))

pub wired_more : (yielded : List Worker) (worker : Worker) (all new : List WiredNode) → (map (λ (w : Worker). w.wired) yielded ≡ all) × AllKept all → new ≡ all ++ worker.wired ∷ [] →
    (map (λ (w : Worker). w.wired) (yielded ++ worker ∷ []) ≡ new) × AllKept new
wired_more yielded worker all new was is = (
  map_more yielded worker ∙ ap (λ (ws : List WiredNode). ws ++ worker.wired ∷ []) was.0 ∙ sym is,
  subst (λ (ws : List WiredNode). AllKept ws) (sym is) (kept_more all worker.wired worker.kept was.1),
)
