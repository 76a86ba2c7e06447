-- Frames go from an outbox to a ring end, one after another.
use Rattle.std.proofs.Common.{◌≡◌, ◌≢◌, ℕ, ◌==◌, List, [], ◌∷◌, ◌++◌, refl, sym, ap, ◌∙◌, append_assoc, Some, eq-eqb, ne_eqb}
use Rattle.std.proofs.lemmas.Bool.{cond-true, cond-false}
use Rattle.link_fifo.specs.Ends.{items_sent, SameWriter}
use Rattle.link_fifo.specs.declared.piece_out.PieceOut.{PieceOut}
use Rattle.node_core.specs.Outbox.{waiting, TakesOut}
use Rattle.node_core.specs.View.{NodeView}
use Rattle.settle_core.proofs.RingLemmas.{writer_trans}

-- so far as the loop has come
pub record HandsTo (to : ℕ) (first : NodeView) (first_end : PieceOut) (node : NodeView) (end : PieceOut) : Type 0 where
  pub node_is : node ≡ record first { outbox = node.outbox; handed = node.handed }
  pub moved : items_sent first_end ++ waiting to first.outbox ≡ items_sent end ++ waiting to node.outbox
  pub others : (q : ℕ) → q ≢ to → waiting q node.outbox ≡ waiting q first.outbox
  pub ring : SameWriter first_end end

pub hands_first : (to : ℕ) (node : NodeView) (first end : PieceOut) → items_sent end ≡ items_sent first → SameWriter first end → HandsTo to node first node end
hands_first to node first end sent ring = record { node_is = refl; moved = ap (λ (xs : List (List ℕ)). xs ++ waiting to node.outbox) (sym sent); others = λ q ne. refl; ring = ring }

module _ (to : ℕ) (bytes : List ℕ) (first node popped : NodeView) (first_end end after : PieceOut) (was : HandsTo to first first_end node end) (out : TakesOut to node.outbox popped.outbox (Some bytes))
    (handed : ℕ) (rest : popped ≡ record node { outbox = popped.outbox; handed = handed }) where
  -- a frame was pushed
  pub hands_next : items_sent after ≡ items_sent end ++ bytes ∷ [] → SameWriter end after → HandsTo to first first_end popped after
  hands_next sent ring = record {
    node_is = rest ∙ ap (λ (s : NodeView). record s { outbox = popped.outbox; handed = handed }) was.node_is ∙ ap (λ h. record first { outbox = popped.outbox; handed = h }) (sym (ap (λ (s : NodeView). s.handed) rest));
    moved = was.moved ∙ ap (λ (xs : List (List ℕ)). items_sent end ++ xs) out.own ∙ sym (append_assoc (items_sent end) (bytes ∷ []) (waiting to popped.outbox)) ∙ ap (λ (xs : List (List ℕ)). xs ++ waiting to popped.outbox) (sym sent);
    others = λ q ne. out.others q ne ∙ was.others q ne;
    ring = writer_trans first_end end after was.ring ring;
  }

  -- or it was given back
  module _ (back : NodeView) (given : ℕ) (is : back ≡ record popped { outbox = (to, bytes) ∷ popped.outbox; handed = given }) where
    outbox : back.outbox ≡ (to, bytes) ∷ popped.outbox
    outbox = ap (λ (s : NodeView). s.outbox) is

    pub hands_back : items_sent after ≡ items_sent end → SameWriter end after → HandsTo to first first_end back after
    hands_back sent ring = record {
      node_is = is ∙ ap (λ (s : NodeView). record s { outbox = (to, bytes) ∷ popped.outbox; handed = given }) (rest ∙ ap (λ (s : NodeView). record s { outbox = popped.outbox; handed = handed }) was.node_is)
          ∙ ap (λ (xs : List (ℕ × List ℕ)). record first { outbox = xs; handed = given }) (sym outbox) ∙ ap (λ h. record first { outbox = back.outbox; handed = h }) (sym (ap (λ (s : NodeView). s.handed) is));
      moved = was.moved ∙ ap (λ (xs : List (List ℕ)). items_sent end ++ xs) (out.own ∙ sym (cond-true (to == to) (bytes ∷ waiting to popped.outbox) (waiting to popped.outbox) (eq-eqb to to refl)) ∙ ap (waiting to) (sym outbox))
          ∙ ap (λ (xs : List (List ℕ)). xs ++ waiting to back.outbox) (sym sent);
      others = λ q ne. ap (waiting q) outbox ∙ cond-false (to == q) (bytes ∷ waiting q popped.outbox) (waiting q popped.outbox) (ne_eqb to q (λ e. ne (sym e))) ∙ out.others q ne ∙ was.others q ne;
      ring = writer_trans first_end end after was.ring ring;
    }
