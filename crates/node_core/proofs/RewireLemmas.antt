-- Frames to those that go and to those that come.
use Rattle.std.proofs.Common.{◌≡◌, ℕ, zero, suc, ◌<◌, ◌≤◌, ◌==◌, Bool, true, false, cond, not, List, [], ◌∷◌, ◌++◌, length, take, slice_index_or, Option, Some, is_some, refl, sym, ap, subst, ◌∙◌, arith, unwrap_or, eq-eqb}
use Rattle.std.specs.Prelude.{All}
use Rattle.std.proofs.lemmas.Bool.{cond-true, cond-false}
use Rattle.std.proofs.lemmas.List.Elements.{All-head, All-tail}
use Rattle.propagation.specs.Lists.{is_among, without}
use Rattle.propagation.specs.Logs.{Entry as TheEntry, Frame as TheFrame, sends}
use Rattle.propagation.specs.Logs.Entry.{Sent as TheSent}
use Rattle.service_machine.specs.States.{epoch_in}
use Rattle.service_machine.specs.Steps.{targets}
use Rattle.svc_value.specs.declared.value.Value.{Value}
use Rattle.wire_frame.specs.declared.frame.Frame.{Frame}
use Rattle.wire_frame.specs.Message.{message}
use Rattle.node_core.specs.Outgoing.{Adds, Says}
use Rattle.node_core.proofs.SaysLemmas.{says_one, says_same}

-- ---- sends, one more

sends_snoc : (f : ℕ → TheFrame Value) (ps : List ℕ) (p : ℕ) (log : List (TheEntry Value)) → sends f (ps ++ p ∷ []) log ≡ TheSent p (f p) ∷ sends f ps log
sends_snoc f [] p log = refl
sends_snoc f (q ∷ ps) p log = sends_snoc f ps p (TheSent q (f q) ∷ log)

-- those of the first that are not in the second, one more
without_next : (ps others : List ℕ) (i p : ℕ) → i < length ps → p ≡ slice_index_or ps i p → without (take (suc i) ps) others ≡ cond (is_among others p) (without (take i ps) others) (without (take i ps) others ++ p ∷ [])
without_next [] others i p lt is = absurd (omega arith)
without_next (q ∷ ps) others zero p lt is = ap (λ k. cond (not (is_among others k)) (k ∷ []) []) (sym is) ∙ go (is_among others p)
  where
    go : (b : Bool) → cond (not b) (p ∷ []) [] ≡ cond b [] ([] ++ p ∷ [])
    go true = refl
    go false = refl
without_next (q ∷ ps) others (suc i) p lt is =
    ap (λ zs. cond (not (is_among others q)) (q ∷ zs) zs) (without_next ps others i p (omega arith) is) ∙ go (is_among others q) (is_among others p)
  where
    go : (a b : Bool) → cond (not a) (q ∷ cond b (without (take i ps) others) (without (take i ps) others ++ p ∷ [])) (cond b (without (take i ps) others) (without (take i ps) others ++ p ∷ []))
        ≡ cond b (cond (not a) (q ∷ without (take i ps) others) (without (take i ps) others)) (cond (not a) (q ∷ without (take i ps) others) (without (take i ps) others) ++ p ∷ [])
    go true true = refl
    go true false = refl
    go false true = refl
    go false false = refl

take_all : {A : Type 0} (xs : List A) (i : ℕ) → length xs ≤ i → take i xs ≡ xs
take_all [] zero h = refl
take_all [] (suc i) h = refl
take_all (x ∷ xs) zero h = absurd (omega (arith, h))
take_all (x ∷ xs) (suc i) h = ap (λ zs. x ∷ zs) (take_all xs i (omega (arith, h)))

-- ---- the two loops

pub sends_kept : (outgoing : List (ℕ × List ℕ)) (f : ℕ → TheFrame Value) (ps others : List ℕ) (i p : ℕ) (base : List (TheEntry Value) → List (TheEntry Value)) → i < length ps → p ≡ slice_index_or ps i p → is_among others p ≡ true →
    Says outgoing (λ log. sends f (without (take i ps) others) (base log)) → Says outgoing (λ log. sends f (without (take (suc i) ps) others) (base log))
sends_kept outgoing f ps others i p base lt is among says =
    says_same outgoing (λ log. sends f (without (take i ps) others) (base log)) (λ log. sends f (without (take (suc i) ps) others) (base log))
    (λ log. ap (λ zs. sends f zs (base log)) (sym (without_next ps others i p lt is ∙ cond-true (is_among others p) (without (take i ps) others) (without (take i ps) others ++ p ∷ []) among))) says

pub sends_more : (outgoing more : List (ℕ × List ℕ)) (f : ℕ → TheFrame Value) (ps others : List ℕ) (i p : ℕ) (frame : Frame) (base : List (TheEntry Value) → List (TheEntry Value)) → i < length ps → p ≡ slice_index_or ps i p → is_among others p ≡ false →
    Says outgoing (λ log. sends f (without (take i ps) others) (base log)) → Adds p frame outgoing more → message frame ≡ Some (f p) → Says more (λ log. sends f (without (take (suc i) ps) others) (base log))
sends_more outgoing more f ps others i p frame base lt is none says adds said =
    says_same more (λ log. TheSent p (f p) ∷ sends f (without (take i ps) others) (base log)) (λ log. sends f (without (take (suc i) ps) others) (base log))
    (λ log. sym (ap (λ zs. sends f zs (base log)) (without_next ps others i p lt is ∙ cond-false (is_among others p) (without (take i ps) others) (without (take i ps) others ++ p ∷ []) none) ∙ sends_snoc f (without (take i ps) others) p (base log)))
    (says_one outgoing more p frame (f p) (λ log. sends f (without (take i ps) others) (base log)) says adds said)

pub sends_whole : (outgoing : List (ℕ × List ℕ)) (f : ℕ → TheFrame Value) (ps others : List ℕ) (i : ℕ) (base : List (TheEntry Value) → List (TheEntry Value)) → length ps ≤ i →
    Says outgoing (λ log. sends f (without (take i ps) others) (base log)) → Says outgoing (λ log. sends f (without ps others) (base log))
sends_whole outgoing f ps others i base h says =
    says_same outgoing (λ log. sends f (without (take i ps) others) (base log)) (λ log. sends f (without ps others) (base log)) (λ log. ap (λ zs. sends f (without zs others) (base log)) (take_all ps i h)) says

-- ---- edges

pub target_at : (edges : List (ℕ × ℕ)) (i : ℕ) (edge : ℕ × ℕ) → i < length edges → edge ≡ slice_index_or edges i edge → edge.0 ≡ slice_index_or (targets edges) i edge.0
target_at [] i edge lt is = absurd (omega arith)
target_at (x ∷ edges) zero edge lt is = ap (λ (z : ℕ × ℕ). z.0) is
target_at (x ∷ edges) (suc i) edge lt is = target_at edges i edge (omega arith) is

pub length_targets : (edges : List (ℕ × ℕ)) → length (targets edges) ≡ length edges
length_targets [] = refl
length_targets (x ∷ edges) = ap (λ n. suc n) (length_targets edges)

-- the epoch of an edge that is there is at least 1
pub epoch_positive : (edges : List (ℕ × ℕ)) (i : ℕ) (edge : ℕ × ℕ) → i < length edges → edge ≡ slice_index_or edges i edge → All (λ x. 1 ≤ x.1) edges → 1 ≤ unwrap_or (epoch_in edges edge.0) 0
epoch_positive [] i edge lt is all = absurd (omega arith)
epoch_positive (x ∷ edges) zero edge lt is all =
    let here : epoch_in (x ∷ edges) edge.0 ≡ Some x.1 = cond-true (x.0 == edge.0) (Some x.1) (epoch_in edges edge.0) (eq-eqb x.0 edge.0 (ap (λ (z : ℕ × ℕ). z.0) (sym is))) in
    let P : Option ℕ → Type 0 = λ o. 1 ≤ unwrap_or o 0 in subst P (sym here) (All-head (λ (z : ℕ × ℕ). 1 ≤ z.1) x edges all)
epoch_positive (x ∷ edges) (suc i) edge lt is all = go (x.0 == edge.0) (epoch_positive edges i edge (omega arith) is (All-tail (λ (z : ℕ × ℕ). 1 ≤ z.1) x edges all))
  where
    go : (b : Bool) → 1 ≤ unwrap_or (epoch_in edges edge.0) 0 → 1 ≤ unwrap_or (cond b (Some x.1) (epoch_in edges edge.0)) 0
    go true h = All-head (λ (z : ℕ × ℕ). 1 ≤ z.1) x edges all
    go false h = h

-- an edge is there exactly where its target is among the targets
pub some_epoch : (edges : List (ℕ × ℕ)) (p : ℕ) → is_some (epoch_in edges p) ≡ is_among (targets edges) p
some_epoch [] p = refl
some_epoch (x ∷ edges) p = go (x.0 == p) (some_epoch edges p)
  where
    go : (b : Bool) → is_some (epoch_in edges p) ≡ is_among (targets edges) p → is_some (cond b (Some x.1) (epoch_in edges p)) ≡ cond b true (is_among (targets edges) p)
    go true h = refl
    go false h = h
