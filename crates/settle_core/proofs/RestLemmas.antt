-- What is left in an outbox goes into the links, frame after frame.
use Rattle.std.proofs.Common.{◌≡◌, ◌≢◌, ℕ, ◌<◌, ◌==◌, List, [], ◌∷◌, ◌++◌, length, refl, sym, ap, ap₂, ◌∙◌, subst, arith, inl, inr, append_assoc, eq-eqb, eqb-true, ne_eqb, ◌+◌}
use Rattle.std.proofs.lemmas.Bool.{cases_Bool, cond-true, cond-false, eqb-false}
use Rattle.std.proofs.lemmas.List.{append-nil}
use Rattle.link_fifo.specs.Waiting.{Link}
use Rattle.node_core.specs.Outbox.{waiting}
use Rattle.node_core.specs.View.{NodeView}
use Rattle.settle_core.specs.Inside.Joining.{AddsFrames, HandsRest}
use Rattle.settle_core.specs.Inside.Table.{waiting_in}
use Rattle.settle_core.specs.Net.{place_of, waits}

-- so far as the loop has come
pub record HandsSome (from : ℕ) (first node : NodeView) (links now : List Link) : Type 0 where
  pub node_is : node ≡ record first { outbox = node.outbox; handed = node.handed }
  pub table : length now ≡ length links
  pub here : (q : ℕ) → waits (waiting_in now) q from ++ waiting q node.outbox ≡ waits (waiting_in links) q from ++ waiting q first.outbox
  pub others : (q p : ℕ) → p < 64 → p ≢ from → waits (waiting_in now) q p ≡ waits (waiting_in links) q p
  pub there : (q : ℕ) → waiting q node.outbox ≢ [] → place_of q from < length links

pub some_first : (from : ℕ) (node : NodeView) (links : List Link) → ((q : ℕ) → waiting q node.outbox ≢ [] → place_of q from < length links) → HandsSome from node node links links
some_first from node links there = record { node_is = refl; table = refl; here = λ q. refl; others = λ q p less ne. refl; there = there }

module _ (from to : ℕ) (bytes : List ℕ) (first node next : NodeView) (links now : List Link) (was : HandsSome from first node links now) (outbox : node.outbox ≡ (to, bytes) ∷ next.outbox) where
  waiting_here : waiting to ((to, bytes) ∷ next.outbox) ≡ bytes ∷ waiting to next.outbox
  waiting_here = cond-true (to == to) (bytes ∷ waiting to next.outbox) (waiting to next.outbox) (eq-eqb to to refl)

  -- the frame has a link
  pub frame_there : place_of to from < length now
  frame_there =
      let some : waiting to node.outbox ≢ [] = λ none. (let no : bytes ∷ waiting to next.outbox ≡ [] = sym waiting_here ∙ ap (waiting to) (sym outbox) ∙ none in cc no) in
      omega (arith, was.there to some, was.table)

  pub some_next : (after : List Link) → from < 64 → next ≡ record node { outbox = next.outbox; handed = node.handed + 1 } → AddsFrames to from (bytes ∷ []) now after → HandsSome from first next links after
  some_next after less is adds = record {
    node_is = is ∙ ap (λ (s : NodeView). record s { outbox = next.outbox; handed = node.handed + 1 }) was.node_is ∙ ap (λ h. record first { outbox = next.outbox; handed = h }) (sym (ap (λ (s : NodeView). s.handed) is));
    table = adds.count ∙ was.table;
    here = λ q. moved q ∙ was.here q;
    others = λ q p lt ne. adds.others q p lt (λ e. ne e.1) ∙ was.others q p lt ne;
    there = λ q some. was.there q (λ none. some (rest_none q (ap (waiting q) (sym outbox) ∙ none)));
  }
    where
      rest_none : (q : ℕ) → waiting q ((to, bytes) ∷ next.outbox) ≡ [] → waiting q next.outbox ≡ []
      rest_none q none = elim (cases_Bool (to == q)) [
        | inl t ↦ absurd (let no : bytes ∷ waiting q next.outbox ≡ [] = sym (cond-true (to == q) (bytes ∷ waiting q next.outbox) (waiting q next.outbox) t) ∙ none in cc no)
        | inr f ↦ sym (cond-false (to == q) (bytes ∷ waiting q next.outbox) (waiting q next.outbox) f) ∙ none
      ]

      moved : (q : ℕ) → waits (waiting_in after) q from ++ waiting q next.outbox ≡ waits (waiting_in now) q from ++ waiting q node.outbox
      moved q = elim (cases_Bool (q == to)) [
        | inl t ↦ (let P : ℕ → Type 0 = λ j. waits (waiting_in after) j from ++ waiting j next.outbox ≡ waits (waiting_in now) j from ++ waiting j node.outbox in
            subst P (sym (eqb-true q to t))
            (ap (λ (xs : List (List ℕ)). xs ++ waiting to next.outbox) adds.here ∙ append_assoc (waits (waiting_in now) to from) (bytes ∷ []) (waiting to next.outbox)
            ∙ ap (λ (xs : List (List ℕ)). waits (waiting_in now) to from ++ xs) (sym waiting_here ∙ ap (waiting to) (sym outbox))))
        | inr f ↦ (let ne = eqb-false q to f in
            ap₂ (λ (xs ys : List (List ℕ)). xs ++ ys) (adds.others q from less (λ e. ne e.0))
            (sym (cond-false (to == q) (bytes ∷ waiting q next.outbox) (waiting q next.outbox) (ne_eqb to q (λ e. ne (sym e)))) ∙ ap (waiting q) (sym outbox)))
      ]

pub some_rest : (from : ℕ) (first node : NodeView) (links now : List Link) → HandsSome from first node links now → node.outbox ≡ [] → HandsRest from first node links now
some_rest from first node links now was empty = record {
  handed = node.handed;
  node = was.node_is ∙ ap (λ (xs : List (ℕ × List ℕ)). record first { outbox = xs; handed = node.handed }) empty;
  table = was.table;
  here = λ q. sym (append-nil (waits (waiting_in now) q from)) ∙ ap (λ (xs : List (List ℕ)). waits (waiting_in now) q from ++ xs) (ap (waiting q) (sym empty)) ∙ was.here q;
  others = was.others;
}
