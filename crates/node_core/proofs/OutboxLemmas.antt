-- Frames that are taken out and put back.
use Rattle.std.proofs.Common.{◌≡◌, ◌≢◌, ℕ, zero, suc, ◌<◌, ◌+◌, ◌==◌, Bool, true, false, cond, List, [], ◌∷◌, ◌++◌, length, slice_index_or, Option, Some, None, refl, sym, ap, ◌∙◌, arith, option_to_list, ltb, ◌≤◌, ltb-false, eqb-true, subst, append_assoc, eq-eqb, ne_eqb}
use Rattle.std.proofs.lemmas.Bool.{cond-true, cond-false, eqb-false}
use Rattle.std.proofs.lemmas.List.Quantifiers.{position-Some}
use Rattle.std.proofs.lemmas.List.Edits.{length-remove}
use Rattle.std.specs.List.{remove, prefix_len}
use Rattle.std.proofs.Common.{not}
use Rattle.node_core.specs.declared.entry.Entry.{Entry}
use Rattle.node_core.specs.Entries.{sent_to}
use Rattle.node_core.specs.Outbox.{waiting, first_to, TakesOut}
use Rattle.node_core.specs.View.{IsPosted, IsLastOut}

-- where no frame before is to the service, the one at the place is its oldest
pub own_at : (q : ℕ) (outgoing_frames : List (ℕ × List ℕ)) (i : ℕ) (x : ℕ × List ℕ) → i < length outgoing_frames → x ≡ slice_index_or outgoing_frames i x → (x.0 == q) ≡ true →
    ((k : ℕ) → k < i → ((slice_index_or outgoing_frames k x).0 == q) ≡ false) → waiting q outgoing_frames ≡ x.1 ∷ waiting q (remove outgoing_frames i)
own_at q [] i x lt is own none = absurd (omega arith)
own_at q (y ∷ rest) zero x lt is own none =
    cond-true (y.0 == q) (y.1 ∷ waiting q rest) (waiting q rest) (ap (λ (z : ℕ × List ℕ). z.0 == q) (sym is) ∙ own)
    ∙ ap (λ (z : ℕ × List ℕ). z.1 ∷ waiting q rest) (sym is)
own_at q (y ∷ rest) (suc i) x lt is own none =
    cond-false (y.0 == q) (y.1 ∷ waiting q rest) (waiting q rest) (none 0 (omega arith))
    ∙ own_at q rest i x (omega arith) is own (λ k h. none (suc k) (omega arith))
    ∙ ap (λ zs. x.1 ∷ zs) (sym (cond-false (y.0 == q) (y.1 ∷ waiting q (remove rest i)) (waiting q (remove rest i)) (none 0 (omega arith))))

-- the frames to another service stay
pub others_at : (p q : ℕ) (outgoing_frames : List (ℕ × List ℕ)) (i : ℕ) (x : ℕ × List ℕ) → i < length outgoing_frames → x ≡ slice_index_or outgoing_frames i x → (x.0 == p) ≡ false →
    waiting p (remove outgoing_frames i) ≡ waiting p outgoing_frames
others_at p q [] i x lt is other = absurd (omega arith)
others_at p q (y ∷ rest) zero x lt is other =
    sym (cond-false (y.0 == p) (y.1 ∷ waiting p rest) (waiting p rest) (ap (λ (z : ℕ × List ℕ). z.0 == p) (sym is) ∙ other))
others_at p q (y ∷ rest) (suc i) x lt is other = ap (λ zs. cond (y.0 == p) (y.1 ∷ zs) zs) (others_at p q rest i x (omega arith) is other)

-- where all are to others none waits
pub all_others : (q : ℕ) (outgoing_frames : List (ℕ × List ℕ)) → length outgoing_frames ≤ prefix_len (λ outgoing_frame. not (outgoing_frame.0 == q)) outgoing_frames → waiting q outgoing_frames ≡ []
all_others q [] h = refl
all_others q (y ∷ rest) h = go (y.0 == q) h (all_others q rest)
  where
    go : (b : Bool) → suc (length rest) ≤ cond (not b) (1 + prefix_len (λ outgoing_frame. not (outgoing_frame.0 == q)) rest) 0 →
        (length rest ≤ prefix_len (λ outgoing_frame. not (outgoing_frame.0 == q)) rest → waiting q rest ≡ []) → cond b (y.1 ∷ waiting q rest) (waiting q rest) ≡ []
    go true less rec = absurd (omega (arith, less))
    go false less rec = rec (omega (arith, less))

-- without a frame to the service none waits
pub none_to : (q : ℕ) (outgoing_frames : List (ℕ × List ℕ)) → first_to q outgoing_frames ≡ None → waiting q outgoing_frames ≡ []
none_to q outgoing_frames is = go (ltb (prefix_len (λ outgoing_frame. not (outgoing_frame.0 == q)) outgoing_frames) (length outgoing_frames)) refl is
  where
    go : (b : Bool) → ltb (prefix_len (λ outgoing_frame. not (outgoing_frame.0 == q)) outgoing_frames) (length outgoing_frames) ≡ b →
        cond b (Some (prefix_len (λ outgoing_frame. not (outgoing_frame.0 == q)) outgoing_frames)) None ≡ None → waiting q outgoing_frames ≡ []
    go true t gone = absurd (cc gone)
    go false t gone = all_others q outgoing_frames (ltb-false _ _ t)

-- what is one service is not another
not_both : (a p q : ℕ) → (a == q) ≡ true → p ≢ q → (a == p) ≡ false
not_both a p q own ne = go (a == p) refl
  where
    go : (b : Bool) → (a == p) ≡ b → b ≡ false
    go true e = absurd (ne (sym (eqb-true a p e) ∙ eqb-true a q own))
    go false e = refl

-- the oldest frame to a service is taken out
pub takes_out : (q : ℕ) (outgoing_frames : List (ℕ × List ℕ)) (i : ℕ) (x : ℕ × List ℕ) → first_to q outgoing_frames ≡ Some i → x ≡ slice_index_or outgoing_frames i x →
    TakesOut q outgoing_frames (remove outgoing_frames i) (Some x.1)
takes_out q outgoing_frames i x at is =
    let found : (i < length outgoing_frames) × (((slice_index_or outgoing_frames i x).0 == q) ≡ true) × ((k : ℕ) → k < i → ((slice_index_or outgoing_frames k x).0 == q) ≡ false) = position-Some (λ outgoing_frame. outgoing_frame.0 == q) outgoing_frames i x at in
    let own : (x.0 == q) ≡ true = ap (λ (z : ℕ × List ℕ). z.0 == q) is ∙ found.1 in
    record {
      own = own_at q outgoing_frames i x found.0 is own found.2;
      none = λ e. absurd (cc e);
      others = λ p ne. others_at p q outgoing_frames i x found.0 is (not_both x.0 p q own ne);
      count = sym (length-remove outgoing_frames i found.0);
    }

-- what is taken out was handed over
pub posted_out : (entries : List Entry) (q : ℕ) (old new : List (ℕ × List ℕ)) (taken : Option (List ℕ)) → TakesOut q old new taken → IsPosted entries old → IsPosted entries new
posted_out entries q old new taken out posted p = go (p == q) refl
  where
    go : (b : Bool) → (p == q) ≡ b → (gone : List (List ℕ)) × (sent_to p entries ≡ gone ++ waiting p new)
    go true e =
        let P : ℕ → Type 0 = λ k. (gone : List (List ℕ)) × (sent_to k entries ≡ gone ++ waiting k new) in
        subst P (sym (eqb-true p q e)) ((posted q).0 ++ option_to_list taken, (posted q).1 ∙ ap (λ zs. (posted q).0 ++ zs) out.own ∙ sym (append_assoc (posted q).0 (option_to_list taken) (waiting q new)))
    go false e = ((posted p).0, (posted p).1 ∙ ap (λ zs. (posted p).0 ++ zs) (sym (out.others p (eqb-false p q e))))

-- and is the last that was
pub last_out : (entries : List Entry) (q : ℕ) (old new : List (ℕ × List ℕ)) (frame : List ℕ) → TakesOut q old new (Some frame) → IsPosted entries old → IsLastOut q frame entries new
last_out entries q old new frame out posted = ((posted q).0, (posted q).1 ∙ ap (λ zs. (posted q).0 ++ zs) out.own)

-- and what is put back was not
pub posted_back : (entries : List Entry) (q : ℕ) (b : List ℕ) (outgoing_frames : List (ℕ × List ℕ)) → (gone : List (List ℕ)) × (sent_to q entries ≡ gone ++ b ∷ waiting q outgoing_frames) →
    IsPosted entries outgoing_frames → IsPosted entries ((q, b) ∷ outgoing_frames)
posted_back entries q b outgoing_frames last posted p = go (q == p) refl
  where
    go : (t : Bool) → (q == p) ≡ t → (gone : List (List ℕ)) × (sent_to p entries ≡ gone ++ cond t (b ∷ waiting p outgoing_frames) (waiting p outgoing_frames))
    go true e = let P : ℕ → Type 0 = λ k. (gone : List (List ℕ)) × (sent_to k entries ≡ gone ++ b ∷ waiting k outgoing_frames) in subst P (eqb-true q p e) last
    go false e = posted p

-- equal lists are posted alike
pub posted_same : (old new : List Entry) (before after : List (ℕ × List ℕ)) → new ≡ old → after ≡ before → IsPosted old before → IsPosted new after
posted_same old new before after e f was = let P : List Entry → Type 0 = λ entries. IsPosted entries after in let Q : List (ℕ × List ℕ) → Type 0 = λ outgoing_frames. IsPosted old outgoing_frames in subst P (sym e) (subst Q (sym f) was)

-- the oldest of all goes
pub pops_out : (x : ℕ × List ℕ) (old rest : List (ℕ × List ℕ)) → old ≡ x ∷ rest → TakesOut x.0 old rest (Some x.1)
pops_out x old rest is =
    let P : List (ℕ × List ℕ) → Type 0 = λ outgoing_frames. TakesOut x.0 outgoing_frames rest (Some x.1) in
    subst P (sym is) (record {
      own = cond-true (x.0 == x.0) (x.1 ∷ waiting x.0 rest) (waiting x.0 rest) (eq-eqb x.0 x.0 refl);
      none = λ e. absurd (cc e);
      others = λ p ne. sym (cond-false (x.0 == p) (x.1 ∷ waiting p rest) (waiting p rest) (ne_eqb x.0 p (λ e. ne (sym e))));
      count = omega arith;
    })
