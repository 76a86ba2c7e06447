-- What is sent in one more event.
use Rattle.std.proofs.Common.{◌≡◌, ℕ, ◌==◌, Bool, true, false, cond, List, [], ◌∷◌, ◌++◌, refl, sym, ap, ◌∙◌, append_assoc}
use Rattle.std.proofs.lemmas.List.{append-nil}
use Rattle.node_core.specs.declared.entry.Entry.{Entry}
use Rattle.node_core.specs.declared.entry.Entry.TheVariants.{Did, Took, Computed, Sent}
use Rattle.node_core.specs.Entries.{sent_to, sent_entries}
use Rattle.node_core.specs.Outbox.{waiting}
use Rattle.node_core.specs.View.{IsPosted}

-- of two lists, one after the other
pub sent_append : (q : ℕ) (xs ys : List Entry) → sent_to q (xs ++ ys) ≡ sent_to q xs ++ sent_to q ys
sent_append q [] ys = refl
sent_append q (Did c ∷ xs) ys = sent_append q xs ys
sent_append q (Took p b ∷ xs) ys = sent_append q xs ys
sent_append q (Computed c ∷ xs) ys = sent_append q xs ys
sent_append q (Sent r b ∷ xs) ys = go (r == q) (sent_append q xs ys)
  where
    go : (t : Bool) → sent_to q (xs ++ ys) ≡ sent_to q xs ++ sent_to q ys → cond t (b ∷ sent_to q (xs ++ ys)) (sent_to q (xs ++ ys)) ≡ cond t (b ∷ sent_to q xs) (sent_to q xs) ++ sent_to q ys
    go true h = ap (λ zs. b ∷ zs) h
    go false h = h

pub waiting_append : (q : ℕ) (xs ys : List (ℕ × List ℕ)) → waiting q (xs ++ ys) ≡ waiting q xs ++ waiting q ys
waiting_append q [] ys = refl
waiting_append q (x ∷ xs) ys = go (x.0 == q) (waiting_append q xs ys)
  where
    go : (t : Bool) → waiting q (xs ++ ys) ≡ waiting q xs ++ waiting q ys → cond t (x.1 ∷ waiting q (xs ++ ys)) (waiting q (xs ++ ys)) ≡ cond t (x.1 ∷ waiting q xs) (waiting q xs) ++ waiting q ys
    go true h = ap (λ zs. x.1 ∷ zs) h
    go false h = h

-- the entries of frames that are sent
pub sent_outgoing : (q : ℕ) (outgoing : List (ℕ × List ℕ)) → sent_to q (sent_entries outgoing) ≡ waiting q outgoing
sent_outgoing q [] = refl
sent_outgoing q (x ∷ rest) = ap (λ zs. cond (x.0 == q) (x.1 ∷ zs) zs) (sent_outgoing q rest)

-- what is sent to one service in one more event
pub sent_more : (q : ℕ) (entries : List Entry) (outgoing : List (ℕ × List ℕ)) (first : Entry) → ((p : ℕ) → sent_to p (first ∷ []) ≡ []) →
    sent_to q ((entries ++ first ∷ []) ++ sent_entries outgoing) ≡ sent_to q entries ++ waiting q outgoing
sent_more q entries outgoing first none =
    sent_append q (entries ++ first ∷ []) (sent_entries outgoing)
    ∙ ap (λ zs. zs ++ sent_to q (sent_entries outgoing)) (sent_append q entries (first ∷ []) ∙ ap (λ zs. sent_to q entries ++ zs) (none q) ∙ append-nil (sent_to q entries))
    ∙ ap (λ zs. sent_to q entries ++ zs) (sent_outgoing q outgoing)

-- an event is posted
pub posted_more : (entries : List Entry) (outbox outgoing : List (ℕ × List ℕ)) (first : Entry) → ((q : ℕ) → sent_to q (first ∷ []) ≡ []) → IsPosted entries outbox →
    IsPosted ((entries ++ first ∷ []) ++ sent_entries outgoing) (outbox ++ outgoing)
posted_more entries outbox outgoing first none was q = (
  (was q).0,
  sent_more q entries outgoing first none
      ∙ ap (λ zs. zs ++ waiting q outgoing) (was q).1
      ∙ append_assoc (was q).0 (waiting q outbox) (waiting q outgoing)
      ∙ ap (λ zs. (was q).0 ++ zs) (sym (waiting_append q outbox outgoing)),
)
