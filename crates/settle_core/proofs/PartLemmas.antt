-- Rings are laid between the nodes of a network.
use Rattle.std.proofs.Common.{◌≡◌, ◌≢◌, ℕ, zero, suc, ◌+◌, ◌<◌, ◌≤◌, ◌==◌, ltb, List, [], ◌∷◌, ◌++◌, map, length, slice_get, slice_index_or, slice_set, Option, Some, None, Result, Ok, Err, OnOk, refl, sym, ap, ◌∙◌, subst, arith, inl, inr, ◌⊎◌, eqb-true, rules, length-append}
use Rattle.std.specs.Option.{IsSome}
use Rattle.std.proofs.lemmas.Bool.{cases_Bool, eqb-false, ltb-true, ltb-false}
use Rattle.propagation.specs.Lists.{Has}
use Rattle.propagation.proofs.Lists.{Has-append_left, Has-append_right, Has-append_cases}
use Rattle.service_machine.specs.Steps.{targets}
use Rattle.svc_graph.specs.declared.definition.Definition.{Definition}
use Rattle.svc_graph.specs.History.{Row, at_clock, dependencies, history_of}
use Rattle.link_fifo.specs.Ends.{items_received, items_sent, OneStream, IsWriterOf, IsReaderOf}
use Rattle.link_fifo.specs.Ring.{OneRing}
use Rattle.link_fifo.specs.declared.piece_in.PieceIn.{PieceIn}
use Rattle.link_fifo.specs.declared.piece_out.PieceOut.{PieceOut}
use Rattle.link_fifo.specs.declared.ring.RingIn.{RingIn}
use Rattle.link_fifo.specs.declared.ring.RingOut.{RingOut}
use Rattle.node_core.specs.View.{NodeView}
use Rattle.settle_core.specs.declared.wired.WiredNode.{WiredNode}
use Rattle.settle_core.specs.Inside.Parting.{AreLaid, ArePaired, AreRead, AreUnwired, HasRings, IsServed, IsUnwired, Lays, LaysAll, LaysRing, ReadWithin, MoreRings}
use Rattle.settle_core.specs.Inside.Working.{from_in, to_in, wired_nodes}
use Rattle.settle_core.specs.Net.{service_at, unborn}
use Rattle.settle_core.specs.Rings.{handed_to, received_from, IsTied}
use Rattle.settle_core.proofs.TableLemmas.{length_set, set_here, set_other}

-- ---- lists of lists

-- one place more with nothing
pub none_more : {A : Type 0} (xs : List (Option A)) → ((q : ℕ) → slice_index_or xs q None ≡ None) → (q : ℕ) → slice_index_or (xs ++ None ∷ []) q None ≡ None
none_more [] none zero = refl
none_more [] none (suc q) = refl
none_more (x ∷ xs) none zero = none zero
none_more (x ∷ xs) none (suc q) = none_more xs (λ k. none (suc k)) q

module _ {A : Type 0} where
  -- an item is replaced by one of which the same is seen
  pub map_same : {B : Type 0} (f : A → B) (xs : List A) (i : ℕ) (w v : A) → i < length xs → w ≡ slice_index_or xs i w → f v ≡ f w → map f (slice_set xs i v) ≡ map f xs
  map_same f [] i w v less is same = absurd (omega (arith, less))
  map_same {B} f (x ∷ xs) zero w v less is same = ap (λ (y : B). y ∷ map f xs) (same ∙ ap f is)
  map_same {B} f (x ∷ xs) (suc i) w v less is same = ap (λ (ys : List B). f x ∷ ys) (map_same f xs i w v (omega (arith, less)) is same)

  -- an item is replaced by one with one place of its row set
  module _ {B : Type 0} (f : A → List (Option B)) (w v : A) (j : ℕ) (o : Option B) (row : f v ≡ slice_set (f w) j o) where
    pub row_here : (xs : List A) (i : ℕ) → i < length xs → w ≡ slice_index_or xs i w → j < length (f w) → slice_index_or (slice_index_or (map f (slice_set xs i v)) i []) j None ≡ o
    row_here [] i less is wide = absurd (omega (arith, less))
    row_here (x ∷ xs) zero less is wide = ap (λ (r : List (Option B)). slice_index_or r j None) row ∙ set_here (f w) j o None wide
    row_here (x ∷ xs) (suc i) less is wide = row_here xs i (omega (arith, less)) is wide

    pub row_others : (xs : List A) (i : ℕ) → i < length xs → w ≡ slice_index_or xs i w → (c d : ℕ) → ((c ≡ i) × (d ≡ j) → ⊥) →
        slice_index_or (slice_index_or (map f (slice_set xs i v)) c []) d None ≡ slice_index_or (slice_index_or (map f xs) c []) d None
    row_others [] i less is c d ne = absurd (omega (arith, less))
    row_others (x ∷ xs) zero less is zero d ne = ap (λ (r : List (Option B)). slice_index_or r d None) row ∙ set_other (f w) j d o None (λ e. ne (refl, e)) ∙ ap (λ (y : A). slice_index_or (f y) d None) is
    row_others (x ∷ xs) zero less is (suc c) d ne = refl
    row_others (x ∷ xs) (suc i) less is zero d ne = refl
    row_others (x ∷ xs) (suc i) less is (suc c) d ne = row_others xs i (omega (arith, less)) is c d (λ e. ne (ap suc e.0, e.1))

-- the row at a place is that of the item there
pub in_row : {A B : Type 0} (f : A → List (Option B)) (xs : List A) (i : ℕ) (w : A) → i < length xs → w ≡ slice_index_or xs i w → (q : ℕ) → slice_index_or (slice_index_or (map f xs) i []) q None ≡ slice_index_or (f w) q None
in_row f [] i w less is q = absurd (omega (arith, less))
in_row {A} f (x ∷ xs) zero w less is q = ap (λ (y : A). slice_index_or (f y) q None) (sym is)
in_row f (x ∷ xs) (suc i) w less is q = in_row f xs i w (omega (arith, less)) is q

-- ---- one ring

pub one_stream : (out : RingOut) (into : RingIn) (writer : PieceOut) (reader : PieceIn) → OneRing out into → IsWriterOf out writer → IsReaderOf into reader → OneStream writer reader
one_stream out into writer reader pair w r = grind rules

abbrev pub to_row : WiredNode → List (Option PieceOut)
to_row w = w.to.items

abbrev pub from_row : WiredNode → List (Option PieceIn)
from_row w = w.from.items

abbrev pub held_row : WiredNode → List (Option (List ℕ))
held_row w = w.held.items

abbrev pub node_at : WiredNode → NodeView
node_at w = w.node

module _ (a b i j : ℕ) (xs : List WiredNode) (w w' v v' : WiredNode) (at_a : i ≡ a) (at_b : j ≡ b) (less_a : i < length xs) (less_b : j < length xs) (wide_a : i < 64) (wide_b : j < 64)
    (is : w ≡ slice_index_or xs i w) (is' : v ≡ slice_index_or (slice_set xs i w') j v) (out : PieceOut) (into : PieceIn)
    (to_set : w'.to.items ≡ slice_set w.to.items j (Some out)) (from_same : w'.from.items ≡ w.from.items) (held_same : w'.held.items ≡ w.held.items) (node_same : w'.node ≡ w.node)
    (from_set : v'.from.items ≡ slice_set v.from.items i (Some into)) (to_same : v'.to.items ≡ v.to.items) (held_same' : v'.held.items ≡ v.held.items) (node_same' : v'.node ≡ v.node)
    (tied : OneStream out into) (unsent : items_sent out ≡ []) (unread : items_received into ≡ []) where
  less_mid : j < length (slice_set xs i w')
  less_mid = omega (arith, less_b, length_set xs i w')

  laid_there : LaysRing i j xs (slice_set (slice_set xs i w') j v')
  laid_there = record {
    nodes = map_same node_at (slice_set xs i w') j v v' less_mid is' node_same' ∙ map_same node_at xs i w w' less_a is node_same;
    count = length_set (slice_set xs i w') j v' ∙ length_set xs i w';
    out = out;
    into = into;
    tied = tied;
    unsent = unsent;
    unread = unread;
    to = ap (λ (rows : List (List (Option PieceOut))). slice_index_or (slice_index_or rows i []) j None) (map_same to_row (slice_set xs i w') j v v' less_mid is' to_same)
        ∙ row_here to_row w w' j (Some out) to_set xs i less_a is (omega (arith, wide_b, w.to_wide));
    from = row_here from_row v v' i (Some into) from_set (slice_set xs i w') j less_mid is' (omega (arith, wide_a, v.from_wide));
    to_others = λ c d ne. ap (λ (rows : List (List (Option PieceOut))). slice_index_or (slice_index_or rows c []) d None) (map_same to_row (slice_set xs i w') j v v' less_mid is' to_same)
        ∙ row_others to_row w w' j (Some out) to_set xs i less_a is c d ne;
    from_others = λ d c ne. row_others from_row v v' i (Some into) from_set (slice_set xs i w') j less_mid is' d c ne
        ∙ ap (λ (rows : List (List (Option PieceIn))). slice_index_or (slice_index_or rows d []) c None) (map_same from_row xs i w w' less_a is from_same);
    held = λ d c. ap (λ (rows : List (List (Option (List ℕ)))). slice_index_or (slice_index_or rows d []) c None)
        (map_same held_row (slice_set xs i w') j v v' less_mid is' held_same' ∙ map_same held_row xs i w w' less_a is held_same);
  }

  pub ring_laid : LaysRing a b xs (slice_set (slice_set xs i w') j v')
  ring_laid = subst (λ k. LaysRing k b xs (slice_set (slice_set xs i w') j v')) at_a (subst (λ k. LaysRing i k xs (slice_set (slice_set xs i w') j v')) at_b laid_there)

-- what holds of an answer gives what follows from it
pub on_ok : {A E : Type 0} (P Q : Type 0) (r : Result A E) → (P → Q) → OnOk r P → OnOk r Q
on_ok P Q (Ok x) f p = f p
on_ok P Q (Err e) f p = tt

-- ---- both rings

-- two numbers are these, or not
both_or : (c d a b : ℕ) → ((c ≡ a) × (d ≡ b)) ⊎ ((c ≡ a) × (d ≡ b) → ⊥)
both_or c d a b =
    elim (cases_Bool (c == a)) [
      | inl t ↦ elim (cases_Bool (d == b)) [ inl u ↦ inl (eqb-true c a t, eqb-true d b u) | inr f ↦ inr (λ e. eqb-false d b f e.1) ]
      | inr f ↦ inr (λ e. eqb-false c a f e.0)
    ]

module _ (a b : ℕ) (old new : List WiredNode) (lays : LaysRing a b old new) where
  ring_there : IsSome (to_in new a b)
  ring_there = subst (λ (o : Option PieceOut). IsSome o) (sym lays.to) refl

  ring_kept : (c d : ℕ) → IsSome (to_in old c d) → IsSome (to_in new c d)
  ring_kept c d some = elim (both_or c d a b) [
    | inl e ↦ subst (λ k. IsSome (to_in new k d)) (sym e.0) (subst (λ k. IsSome (to_in new a k)) (sym e.1) ring_there)
    | inr ne ↦ subst (λ (o : Option PieceOut). IsSome o) (sym (lays.to_others c d ne)) some
  ]

  ring_only : (c d : ℕ) → IsSome (to_in new c d) → ((c ≡ a) × (d ≡ b)) ⊎ IsSome (to_in old c d)
  ring_only c d some = elim (both_or c d a b) [
    | inl e ↦ inl e
    | inr ne ↦ inr (subst (λ (o : Option PieceOut). IsSome o) (lays.to_others c d ne) some)
  ]

  rings_laid : AreLaid old → AreLaid new
  rings_laid was = record {
    tied = λ c d. elim (both_or c d a b) [
      | inl e ↦ (let P : ℕ → ℕ → Type 0 = λ x y. IsTied (to_in new x y) (from_in new y x) in
          subst (λ x. P x d) (sym e.0) (subst (λ y. P a y) (sym e.1)
          (subst (λ (o : Option PieceOut). IsTied o (from_in new b a)) (sym lays.to) (subst (λ (o : Option PieceIn). IsTied (Some lays.out) o) (sym lays.from) lays.tied))))
      | inr ne ↦ subst (λ (o : Option PieceOut). IsTied o (from_in new d c)) (sym (lays.to_others c d ne))
          (subst (λ (o : Option PieceIn). IsTied (to_in old c d) o) (sym (lays.from_others d c (λ e. ne (e.1, e.0)))) (was.tied c d))
    ];
    handed = λ c d. elim (both_or c d a b) [
      | inl e ↦ (let P : ℕ → ℕ → Type 0 = λ x y. handed_to (to_in new x y) ≡ [] in
          subst (λ x. P x d) (sym e.0) (subst (λ y. P a y) (sym e.1) (ap handed_to lays.to ∙ lays.unsent)))
      | inr ne ↦ ap handed_to (lays.to_others c d ne) ∙ was.handed c d
    ];
    received = λ d c. elim (both_or d c b a) [
      | inl e ↦ (let P : ℕ → ℕ → Type 0 = λ x y. received_from (from_in new x y) ≡ [] in
          subst (λ x. P x c) (sym e.0) (subst (λ y. P b y) (sym e.1) (ap received_from lays.from ∙ lays.unread)))
      | inr ne ↦ ap received_from (lays.from_others d c ne) ∙ was.received d c
    ];
    held = λ d c. lays.held d c ∙ was.held d c;
  }

pub lays_both : (a b : ℕ) (old mid new : List WiredNode) → LaysRing a b old mid → LaysRing b a mid new → Lays a b old new
lays_both a b old mid new one two = record {
  wires = record {
    nodes = two.nodes ∙ one.nodes;
    count = two.count ∙ one.count;
    kept = λ c d some. ring_kept b a mid new two c d (ring_kept a b old mid one c d some);
    laid = λ was. rings_laid b a mid new two (rings_laid a b old mid one was);
    paired = λ was c d some. elim (ring_only b a mid new two c d some) [
      | inl e ↦ subst (λ x. IsSome (to_in new d x)) (sym e.0) (subst (λ x. IsSome (to_in new x b)) (sym e.1) there)
      | inr rest ↦ elim (ring_only a b old mid one c d rest) [
        | inl e ↦ subst (λ x. IsSome (to_in new d x)) (sym e.0) (subst (λ x. IsSome (to_in new x a)) (sym e.1) back)
        | inr before ↦ ring_kept b a mid new two d c (ring_kept a b old mid one d c (was c d before))
      ]
    ];
  };
  there = λ was. (there, back);
}
  where
    there : IsSome (to_in new a b)
    there = ring_kept b a mid new two a b (ring_there a b old mid one)

    back : IsSome (to_in new b a)
    back = ring_there b a mid new two

pub wires_same : (all : List WiredNode) → MoreRings all all
wires_same all = record { nodes = refl; count = refl; kept = λ a b some. some; laid = λ was. was; paired = λ was. was }

pub wires_trans : (old mid new : List WiredNode) → MoreRings old mid → MoreRings mid new → MoreRings old new
wires_trans old mid new p q = record {
  nodes = q.nodes ∙ p.nodes;
  count = q.count ∙ p.count;
  kept = λ a b some. q.kept a b (p.kept a b some);
  laid = λ was. q.laid (p.laid was);
  paired = λ was. q.paired (p.paired was);
}

pub lays_there : (a b : ℕ) (all : List WiredNode) → IsSome (to_in all a b) → Lays a b all all
lays_there a b all some = record { wires = wires_same all; there = λ was. (some, was a b some) }

rings_stay : (a b : ℕ) (old new : List WiredNode) → MoreRings old new → HasRings a b old → HasRings a b new
rings_stay a b old new wires has = (wires.kept a b has.0, wires.kept b a has.1)

-- ---- rings to each of some services

pub lays_none : (a : ℕ) (all : List WiredNode) → LaysAll a [] all all
lays_none a all = record { wires = wires_same all; there = λ was q has. absurd has }

pub lays_more : (a b : ℕ) (others : List ℕ) (first mid new : List WiredNode) → LaysAll a others first mid → Lays a b mid new → LaysAll a (others ++ b ∷ []) first new
lays_more a b others first mid new was lays = record {
  wires = wires_trans first mid new was.wires lays.wires;
  there = λ paired q has. elim (Has-append_cases others (b ∷ []) q has) [
    | inl h ↦ rings_stay a q mid new lays.wires (was.there paired q h)
    | inr h ↦ elim h [
      | inl e ↦ subst (λ k. HasRings a k new) e (lays.there (was.wires.paired paired))
      | inr none ↦ absurd none
    ]
  ];
}

-- ---- the services that are read in a leg

pub read_first : (count : ℕ) (edges : List ℕ) (own : ℕ) (history : List Definition) (limit : ℕ) → limit ≤ own + 1 → AreRead count edges own history limit edges
read_first count edges own history limit le = record { by_edges = λ q has. has; to_come = λ c q d above less is has. absurd (omega (arith, above, less, le)); below = λ edges_below named q has. edges_below q has }

module _ (count : ℕ) (edges : List ℕ) (own : ℕ) (history : List Definition) (limit : ℕ) (ids : List ℕ) (was : AreRead count edges own history limit ids) where
  pub read_none : at_clock history limit ≡ None → AreRead count edges own history (limit + 1) ids
  read_none none = record {
    by_edges = was.by_edges;
    to_come = λ c q d above less is has. elim (cases_Bool (c == limit)) [
      | inl t ↦ absurd (let no : Some d ≡ None = sym is ∙ ap (at_clock history) (eqb-true c limit t) ∙ none in cc no)
      | inr f ↦ was.to_come c q d above (lower c less (eqb-false c limit f)) is has
    ];
    below = was.below;
  }
    where
      lower : (c : ℕ) → c < limit + 1 → c ≢ limit → c < limit
      lower c less ne = elim (cases_Bool (ltb c limit)) [
        | inl t ↦ ltb-true c limit t
        | inr f ↦ (let ge : limit ≤ c = ltb-false c limit f in let e : c ≡ limit = omega (arith, ge, less) in absurd (ne e))
      ]

  pub read_some : (d : Definition) (new : List ℕ) → at_clock history limit ≡ Some d → new ≡ ids ++ dependencies d → AreRead count edges own history (limit + 1) new
  read_some d new at is = subst (λ (xs : List ℕ). AreRead count edges own history (limit + 1) xs) (sym is) (record {
    by_edges = λ q has. Has-append_left ids (dependencies d) q (was.by_edges q has);
    to_come = λ c q e above less found has. elim (cases_Bool (c == limit)) [
      | inl t ↦ (let same : Some e ≡ Some d = sym found ∙ ap (at_clock history) (eqb-true c limit t) ∙ at in
          let this : e ≡ d = cc same in Has-append_right ids (dependencies d) q (subst (λ (x : Definition). Has (dependencies x) q) this has))
      | inr f ↦ Has-append_left ids (dependencies d) q (was.to_come c q e above (lower c less (eqb-false c limit f)) found has)
    ];
    below = λ edges_below named q has. elim (Has-append_cases ids (dependencies d) q has) [
      | inl h ↦ was.below edges_below named q h
      | inr h ↦ named limit q d at h
    ];
  })
    where
      lower : (c : ℕ) → c < limit + 1 → c ≢ limit → c < limit
      lower c less ne = elim (cases_Bool (ltb c limit)) [
        | inl t ↦ ltb-true c limit t
        | inr f ↦ (let ge : limit ≤ c = ltb-false c limit f in let e : c ≡ limit = omega (arith, ge, less) in absurd (ne e))
      ]

  pub read_less : (fewer : ℕ) → fewer ≤ limit → AreRead count edges own history fewer ids
  read_less fewer le = record { by_edges = was.by_edges; to_come = λ c q d above less is has. was.to_come c q d above (omega (arith, less, le)) is has; below = was.below }

-- a clock at which there is a definition is no greater than their number
pub clock_within : (history : List Definition) (c : ℕ) (d : Definition) → at_clock history c ≡ Some d → c < length history + 1
clock_within history zero d is = absurd (cc is)
clock_within history (suc c) d is = within history c is
  where
    within : (xs : List Definition) (i : ℕ) → slice_get xs i ≡ Some d → suc i < length xs + 1
    within [] i found = absurd (cc found)
    within (x ∷ xs) zero found = omega arith
    within (x ∷ xs) (suc i) found = let less : suc i < length xs + 1 = within xs i found in omega (arith, less)

-- ---- all nodes

module _ (rows : List Row) (first : List WiredNode) (within : ReadWithin rows (wired_nodes first)) (all : List WiredNode) (wires : MoreRings first all) (n : ℕ) (less : n < length rows) (ids : List ℕ)
    (read : AreRead (length rows) (targets (service_at (wired_nodes all) n).state.edges) (service_at (wired_nodes all) n).state.own (history_of rows n) (length (history_of rows n) + 1) ids) where
  pub ids_within : (q : ℕ) → Has ids q → q < length rows
  ids_within = read.below
      (λ q has. within.by_edges n q less (subst (λ (nodes : List NodeView). Has (targets (service_at nodes n).state.edges) q) wires.nodes has))
      (λ c q d is has. within.to_come n c q d less is has)

  pub served_here : (new : List WiredNode) → ArePaired all → LaysAll n ids all new → IsServed n (history_of rows n) new
  served_here new paired lays = record {
    by_edges = λ q has. lays.there paired q (read.by_edges q (subst (λ (nodes : List NodeView). Has (targets (service_at nodes n).state.edges) q) lays.wires.nodes has));
    to_come = λ c q d above is has. lays.there paired q (read.to_come c q d (subst (λ (nodes : List NodeView). (service_at nodes n).state.own < c) lays.wires.nodes above) (clock_within (history_of rows n) c d is) is has);
  }

pub served_stays : (n : ℕ) (history : List Definition) (old new : List WiredNode) → MoreRings old new → IsServed n history old → IsServed n history new
served_stays n history old new wires was = record {
  by_edges = λ q has. rings_stay n q old new wires (was.by_edges q (subst (λ (nodes : List NodeView). Has (targets (service_at nodes n).state.edges) q) wires.nodes has));
  to_come = λ c q d above is has. rings_stay n q old new wires (was.to_come c q d (subst (λ (nodes : List NodeView). (service_at nodes n).state.own < c) wires.nodes above) is has);
}

pub served_more : (k : ℕ) (P : ℕ → Type 0) → ((n : ℕ) → n < k → P n) → P k → (n : ℕ) → n < k + 1 → P n
served_more k P was here n less = elim (cases_Bool (n == k)) [
  | inl t ↦ subst P (sym (eqb-true n k t)) here
  | inr f ↦ was n (below n (eqb-false n k f) less)
]
  where
    below : (n : ℕ) → n ≢ k → n < k + 1 → n < k
    below n ne less = elim (cases_Bool (ltb n k)) [
      | inl t ↦ ltb-true n k t
      | inr f ↦ (let ge : k ≤ n = ltb-false n k f in let e : n ≡ k = omega (arith, ge, less) in absurd (ne e))
    ]

-- ---- nodes without rings, and the node at a place

row_more : {A B : Type 0} (f : A → List (Option B)) (xs : List A) (x : A) → ((a b : ℕ) → slice_index_or (slice_index_or (map f xs) a []) b None ≡ None) → ((b : ℕ) → slice_index_or (f x) b None ≡ None) →
    (a b : ℕ) → slice_index_or (slice_index_or (map f (xs ++ x ∷ [])) a []) b None ≡ None
row_more f [] x was here zero b = here b
row_more f [] x was here (suc a) b = refl
row_more f (y ∷ xs) x was here zero b = was zero b
row_more f (y ∷ xs) x was here (suc a) b = row_more f xs x (λ c d. was (suc c) d) here a b

nodes_more : (xs : List WiredNode) (x : WiredNode) → wired_nodes (xs ++ x ∷ []) ≡ wired_nodes xs ++ x.node ∷ []
nodes_more [] x = refl
nodes_more (y ∷ xs) x = ap (λ (ns : List NodeView). y.node ∷ ns) (nodes_more xs x)

pub unwired_more : (nodes : List NodeView) (node : NodeView) (all : List WiredNode) (wired : WiredNode) → AreUnwired nodes all → IsUnwired node wired → AreUnwired (nodes ++ node ∷ []) (all ++ wired ∷ [])
unwired_more nodes node all wired was is = record {
  nodes_are = nodes_more all wired ∙ ap (λ (ns : List NodeView). ns ++ wired.node ∷ []) was.nodes_are ∙ ap (λ (n : NodeView). nodes ++ n ∷ []) is.node_is;
  to = row_more to_row all wired was.to is.to;
  from = row_more from_row all wired was.from is.from;
  held = row_more held_row all wired was.held is.held;
}

pub wired_at : (all : List WiredNode) (n : ℕ) (w : WiredNode) → n < length all → w ≡ slice_index_or all n w → service_at (wired_nodes all) n ≡ w.node
wired_at all n w less is = go all n less is (unborn n)
  where
    go : (xs : List WiredNode) (i : ℕ) → i < length xs → w ≡ slice_index_or xs i w → (d : NodeView) → slice_index_or (wired_nodes xs) i d ≡ w.node
    go [] i less is d = absurd (omega (arith, less))
    go (x ∷ xs) zero less is d = ap (λ (y : WiredNode). y.node) (sym is)
    go (x ∷ xs) (suc i) less is d = go xs i (omega (arith, less)) is d

-- ---- the next of all

pub next_at : (all yielded rest : List WiredNode) (w d : WiredNode) (n : ℕ) → all ≡ yielded ++ w ∷ rest → n ≡ length yielded → slice_index_or all n d ≡ w
next_at all yielded rest w d n split count = ap (λ (xs : List WiredNode). slice_index_or xs n d) split ∙ ap (λ k. slice_index_or (yielded ++ w ∷ rest) k d) count ∙ here yielded
  where
    here : (xs : List WiredNode) → slice_index_or (xs ++ w ∷ rest) (length xs) d ≡ w
    here [] = refl
    here (x ∷ xs) = here xs

pub next_within : (all yielded rest : List WiredNode) (w : WiredNode) (n : ℕ) → all ≡ yielded ++ w ∷ rest → n ≡ length yielded → n < length all
next_within all yielded rest w n split count =
    let sum : length all ≡ length (yielded ++ w ∷ rest) = ap (λ (xs : List WiredNode). length xs) split in
    let both : length (yielded ++ w ∷ rest) ≡ length yielded + length (w ∷ rest) = length-append yielded (w ∷ rest) in omega (arith, sum, both, count)

pub read_here : (count : ℕ) (all : List WiredNode) (n : ℕ) (w : WiredNode) → n < length all → w ≡ slice_index_or all n w → (lent history : List Definition) (ids : List ℕ) → lent ≡ history →
    AreRead count (targets w.node.state.edges) w.node.state.own lent (length lent + 1) ids →
    AreRead count (targets (service_at (wired_nodes all) n).state.edges) (service_at (wired_nodes all) n).state.own history (length history + 1) ids
read_here count all n w less is lent history ids same read =
    subst (λ (s : NodeView). AreRead count (targets s.state.edges) s.state.own history (length history + 1) ids) (sym (wired_at all n w less is))
    (subst (λ (ds : List Definition). AreRead count (targets w.node.state.edges) w.node.state.own ds (length ds + 1) ids) same read)
