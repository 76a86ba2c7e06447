-- The lists before a leg say what the state before it is.
use Rattle.std.proofs.Common.{◌≡◌, ℕ, zero, suc, Bool, true, false, ◌&&◌, ◌==◌, List, [], ◌∷◌, ◌++◌, map, length, replicate, slice_index_or, Option, Some, None, inl, inr, refl, sym, ap, ◌∙◌, subst, arith, eq-zero-or-pos, if◌then◌else◌}
use Rattle.std.proofs.lemmas.Bool.{cases_Bool, cond-true, cond-false}
use Rattle.std.proofs.lemmas.Bool.Decides.{Decides-eqb}
use Rattle.propagation.specs.Lists.{Has, AreDistinct, is_among, as_list}
use Rattle.propagation.specs.History.{edge}
use Rattle.propagation.specs.Stamps.{Stamps, clock_of, IsRising}
use Rattle.propagation.specs.Logs.{Emission, Leg, kept_under, is_epoch, stamps_of}
use Rattle.propagation.specs.Rules.{Opening}
use Rattle.propagation.specs.Notes.{floor}
use Rattle.service_machine.specs.States.{epoch_in}
use Rattle.judged_run.proofs.Pointwise.{SameState, state-same}
use Rattle.judged_run.specs.LogStates.{state_before}
use Rattle.judge_state.specs.Lists.{announced_at, epochs_of, state_of}
use Rattle.judge_state.specs.Laws.{AreLogLists}
use Rattle.judge_state.specs.Opening.{announced_row, heard_rows, told_rows, first_lists, AreLinks, LogListsBegin}
use Rattle.judge_state.proofs.Rows.{eq-false}

-- so many zeros
abbrev nothing_taken : ℕ → List ℕ
nothing_taken count = replicate count 0

abbrev count_at : List ℕ → ℕ → ℕ
count_at took p = slice_index_or took p 0

zeros : (count p : ℕ) → count_at (nothing_taken count) p ≡ 0
zeros zero p = refl
zeros (suc count) zero = refl
zeros (suc count) (suc p) = zeros count p

length-zeros : (count : ℕ) → length (nothing_taken count) ≡ count
length-zeros zero = refl
length-zeros (suc count) = ap suc (length-zeros count)

among-last : (es : List ℕ) (i e : ℕ) → is_among (es ++ i ∷ []) e ≡ (if i == e then true else is_among es e)
among-last [] i e = refl
among-last (j ∷ es) i e = go (j == e) (i == e) (among-last es i e)
  where
    go : (b c : Bool) → is_among (es ++ i ∷ []) e ≡ (if c then true else is_among es e) → (if b then true else is_among (es ++ i ∷ []) e) ≡ (if c then true else (if b then true else is_among es e))
    go true true h = refl
    go true false h = refl
    go false c h = h

-- the same stamps twice
abbrev twice : Stamps → Stamps × Stamps
twice S = (S, S)

module _ {V : Type 0} where
  -- ---- what was heard

  stamps-absent : (opened : ℕ → Option (Emission V)) (edges : List (ℕ × ℕ)) (p e : ℕ) → (Has (map (λ x. x.0) edges) p → ⊥) → announced_at (heard_rows opened edges) p e ≡ ([], [])
  stamps-absent opened [] p e none = refl
  stamps-absent opened (x ∷ rest) p e none = go (opened x.0) (stamps-absent opened rest p e (λ h. none (inr h)))
    where
      go : (o : Option (Emission V)) → announced_at (heard_rows opened rest) p e ≡ ([], []) → announced_at (announced_row x.0 x.1 o (heard_rows opened rest)) p e ≡ ([], [])
      go None h = h
      go (Some m) h = ap (λ b. if b && (x.1 == e) then twice m.stamps else announced_at (heard_rows opened rest) p e) (eq-false x.0 p (λ s. none (inl s))) ∙ h

  stamps-heard : (opened : ℕ → Option (Emission V)) (edges : List (ℕ × ℕ)) (p e : ℕ) → AreDistinct (map (λ x. x.0) edges) → announced_at (heard_rows opened edges) p e ≡ twice (stamps_of (kept_under (epoch_in edges p) e (opened p)))
  stamps-heard opened [] p e apart = refl
  stamps-heard opened (x ∷ rest) p e apart =
      elim (cases_Bool (x.0 == p)) [
        | inl t ↦
            (let same : x.0 ≡ p = (Decides-eqb x.0 p).0 t in
            here (opened x.0) t (stamps-absent opened rest p e (λ h. apart.0 (subst (λ i. Has (map (λ y. y.0) rest) i) (sym same) h)))
            ∙ ap (λ i. twice (stamps_of (kept_under (Some x.1) e (opened i)))) same
            ∙ ap (λ o. twice (stamps_of (kept_under o e (opened p)))) (sym (cond-true (x.0 == p) (Some x.1) (epoch_in rest p) t)))
        | inr f ↦ there (opened x.0) f (stamps-heard opened rest p e apart.1) ∙ ap (λ o. twice (stamps_of (kept_under o e (opened p)))) (sym (cond-false (x.0 == p) (Some x.1) (epoch_in rest p) f))
      ]
    where
      here : (o : Option (Emission V)) → (x.0 == p) ≡ true → announced_at (heard_rows opened rest) p e ≡ ([], []) → announced_at (announced_row x.0 x.1 o (heard_rows opened rest)) p e ≡ twice (stamps_of (kept_under (Some x.1) e o))
      here None t h = h ∙ none_kept (x.1 == e)
        where
          none_kept : (b : Bool) → ([], []) ≡ twice (stamps_of {V = V} (if b then None else None))
          none_kept true = refl
          none_kept false = refl
      here (Some m) t h =
          ap (λ b. if b && (x.1 == e) then twice m.stamps else announced_at (heard_rows opened rest) p e) t ∙ kept (x.1 == e)
        where
          kept : (b : Bool) → (if b then twice m.stamps else announced_at (heard_rows opened rest) p e) ≡ twice (stamps_of (if b then Some m else None))
          kept true = refl
          kept false = h

      there : (o : Option (Emission V)) → (x.0 == p) ≡ false → announced_at (heard_rows opened rest) p e ≡ twice (stamps_of (kept_under (epoch_in rest p) e (opened p))) →
          announced_at (announced_row x.0 x.1 o (heard_rows opened rest)) p e ≡ twice (stamps_of (kept_under (epoch_in rest p) e (opened p)))
      there None f h = h
      there (Some m) f h = ap (λ b. if b && (x.1 == e) then twice m.stamps else announced_at (heard_rows opened rest) p e) f ∙ h

  -- ---- what was told

  told-one : (m : Emission V) (readers : List (ℕ × ℕ)) (q e : ℕ) → announced_at (told_rows (Some m) readers) q e ≡ (if is_among (epochs_of readers q) e then twice m.stamps else ([], []))
  told-one m [] q e = refl
  told-one m (r ∷ rest) q e = go (r.0 == q) (told-one m rest q e)
    where
      go : (b : Bool) → announced_at (told_rows (Some m) rest) q e ≡ (if is_among (epochs_of rest q) e then twice m.stamps else ([], [])) →
          (if b && (r.1 == e) then twice m.stamps else announced_at (told_rows (Some m) rest) q e) ≡ (if is_among (epochs_of rest q ++ (if b then r.1 ∷ [] else [])) e then twice m.stamps else ([], []))
      go true h = last (r.1 == e) h ∙ ap (λ b. if b then twice m.stamps else ([], [])) (sym (among-last (epochs_of rest q) r.1 e))
        where
          last : (c : Bool) → announced_at (told_rows (Some m) rest) q e ≡ (if is_among (epochs_of rest q) e then twice m.stamps else ([], [])) →
              (if c then twice m.stamps else announced_at (told_rows (Some m) rest) q e) ≡ (if (if c then true else is_among (epochs_of rest q) e) then twice m.stamps else ([], []))
          last true h = refl
          last false h = h
      go false h = h ∙ ap (λ es. if is_among es e then twice m.stamps else ([], [])) (sym (nothing-more (epochs_of rest q)))
        where
          nothing-more : (es : List ℕ) → es ++ [] ≡ es
          nothing-more [] = refl
          nothing-more (i ∷ es) = ap (λ ys. i ∷ ys) (nothing-more es)

  told-all : (o : Option (Emission V)) (readers : List (ℕ × ℕ)) (q e : ℕ) (link : Option ℕ) → epochs_of readers q ≡ as_list link → announced_at (told_rows o readers) q e ≡ twice (stamps_of (kept_under link e o))
  told-all None readers q e link is = none_kept (is_epoch link e)
    where
      none_kept : (b : Bool) → ([], []) ≡ twice (stamps_of {V = V} (if b then None else None))
      none_kept true = refl
      none_kept false = refl
  told-all (Some m) readers q e link is = told-one m readers q e ∙ ap (λ es. if is_among es e then twice m.stamps else ([], [])) is ∙ by_link link
    where
      by_link : (l : Option ℕ) → (if is_among (as_list l) e then twice m.stamps else ([], [])) ≡ twice (stamps_of (kept_under l e (Some m)))
      by_link None = refl
      by_link (Some i) = go (i == e)
        where
          go : (b : Bool) → (if (if b then true else false) then twice m.stamps else ([], [])) ≡ twice (stamps_of (if b then Some m else None))
          go true = refl
          go false = refl

  top-one : (o : Option (Emission V)) (q : ℕ) → clock_of (stamps_of o) q ≡ floor (as_list o) q
  top-one None q = refl
  top-one (Some m) q = omega arith

module _ {V D : Type 0} (g : Leg V D) (n count : ℕ) (edges readers : List (ℕ × ℕ)) (opening : Opening g) (links : AreLinks g n count edges readers) where
  opened-heard : (p e : ℕ) → stamps_of (kept_under (epoch_in edges p) e (g.opened p)) ≡ g.hears n p e
  opened-heard p e = ap (λ o. stamps_of (kept_under o e (g.opened p))) (links.edges_are p) ∙ sym (opening.hears n p e)

  same-first : SameState (state_of (first_lists g n count edges readers)) (state_before g n)
  same-first = record {
    clock = refl;
    edges = links.edges_are;
    heard = λ p e. ap (λ (x : Stamps × Stamps). x.0) (stamps-heard g.opened edges p e links.apart) ∙ opened-heard p e;
    heard_last = λ p e. ap (λ (x : Stamps × Stamps). x.1) (stamps-heard g.opened edges p e links.apart) ∙ opened-heard p e;
    came = λ p e. refl;
    took = λ p. zeros count p;
    readers = λ q. links.readers_are q ∙ ap (λ o. as_list o) (sym (opening.read_by n q));
    told_to = λ q e. ap (λ (x : Stamps × Stamps). x.0) (told-all (g.opened n) readers q e (edge g.book q n (g.start q)) (links.readers_are q)) ∙ sym (opening.tells n q e);
    told_last = λ q e. ap (λ (x : Stamps × Stamps). x.1) (told-all (g.opened n) readers q e (edge g.book q n (g.start q)) (links.readers_are q)) ∙ sym (opening.tells n q e);
    top = λ q. top-one (g.opened n) q;
    last = refl;
    work = refl;
    due = λ q. refl;
  }

  first-rising : IsRising 0 (stamps_of (g.opened n))
  first-rising =
      elim (eq-zero-or-pos (g.start n)) [
        | inl unborn ↦ subst (λ o. IsRising 0 (stamps_of o)) (sym (opening.unborn n unborn)) tt
        | inr born ↦ (let (m, is, central, cut) = opening.born n born in subst (λ o. IsRising 0 (stamps_of o)) (sym is) cut.rising)
      ]

  first-is : AreLogLists count (first_lists g n count edges readers)
  first-is = record { apart = links.apart; counts = length-zeros count; rising = first-rising; edges_below = links.edges_below; readers_below = links.readers_below; due_below = λ q h. absurd h }

pub log_lists_begin : (V D : Type 0) → LogListsBegin V D
log_lists_begin V D g n count edges readers opening links =
    (state-same (state_of (first_lists g n count edges readers)) (state_before g n) (same-first g n count edges readers opening links), first-is g n count edges readers opening links)
