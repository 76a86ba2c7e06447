-- A document has one reading: its lines lead to one state, or one of them is refused, with one code.
use Rattle.std.proofs.Common.{◌≡◌, ℕ, suc, ◌+◌, List, [], ◌∷◌, ◌++◌, length, Option, Some, None, refl, sym, ap, subst, ◌∙◌, arith, inl, inr}
use Rattle.svc_plan.specs.declared.plan.Leg.{Leg}
use Rattle.svc_plan.specs.declared.plan.Mode.{Mode}
use Rattle.document_reading.specs.declared.refusal.Code.{Code}
use Rattle.document_reading.specs.declared.refusal.Refusal.{Refusal}
use Rattle.document_reading.specs.declared.statement.Statement.{Statement}
use Rattle.svc_graph.specs.History.{Row}
use Rattle.document_reading.specs.Document.{IsLine, AcceptsLine, IsUnread, long, other_bytes, other_words, RefusesLine, unread, against, Reads, ends, line, HasLegsAfter, IsAcceptedAfter, IsRefusalAfter}
use Rattle.document_reading.specs.Refusals.{refusal}
use Rattle.document_reading.specs.State.{State, start, next, legs_in}
use Rattle.document_reading.proofs.SaidLemmas.{one_statement}

-- ---- one line

not_unread : {l : List ℕ} {code : Code} {s : Statement} → IsUnread l code → IsLine l s → ⊥
not_unread (long h) k = let a = k.short in omega (arith, h, a)
not_unread (other_bytes h n) k = n k.text
not_unread {s = s} (other_words h t n) k = n s k.says

one_unread : {l : List ℕ} {a b : Code} → IsUnread l a → IsUnread l b → a ≡ b
one_unread (long h) (long k) = refl
one_unread (long h) (other_bytes k n) = absurd (omega (arith, h, k))
one_unread (long h) (other_words k t n) = absurd (omega (arith, h, k))
one_unread (other_bytes h n) (long k) = absurd (omega (arith, h, k))
one_unread (other_bytes h n) (other_bytes k m) = refl
one_unread (other_bytes h n) (other_words k t m) = absurd (n t)
one_unread (other_words h t n) (long k) = absurd (omega (arith, h, k))
one_unread (other_words h t n) (other_bytes k m) = absurd (m t)
one_unread (other_words h t n) (other_words k u m) = refl

some_is : {A : Type 0} (x y : A) → Some x ≡ Some y → x ≡ y
some_is x y e = cc

some_not : {A : Type 0} (o : Option A) (x : A) → o ≡ Some x → o ≡ None → ⊥
some_not o x h k = cc

pub one_code : {mode : Mode} {state : State} {l : List ℕ} {a b : Code} → RefusesLine mode state l a → RefusesLine mode state l b → a ≡ b
one_code (unread h) (unread k) = one_unread h k
one_code (unread h) (against k e) = absurd (not_unread h k)
one_code (against h e) (unread k) = absurd (not_unread k h)
one_code {mode = mode} {state = state} {a = a} {b = b} (against h e) (against k f) =
    some_is a b (sym e ∙ ap (refusal mode state) (one_statement h.says k.says) ∙ f)

pub not_both : {mode : Mode} {state : State} {l : List ℕ} {code : Code} {s : Statement} → RefusesLine mode state l code → AcceptsLine mode state l s → ⊥
not_both (unread h) k = not_unread h k.reads
not_both {mode = mode} {state = state} {code = code} {s = s} (against h e) k =
    some_not (refusal mode state s) code (ap (refusal mode state) (one_statement k.reads.says h.says) ∙ e) k.fits

-- ---- lines

pub reads-last : {mode : Mode} {first state : State} {front : List (List ℕ)} {l : List ℕ} {s : Statement} → Reads mode first front state → AcceptsLine mode state l s
    → Reads mode first (front ++ l ∷ []) (next state s)
reads-last ends k = line k ends
reads-last (line h r) k = line h (reads-last r k)

-- the same lines lead to one state
one_state_at : {mode : Mode} {lines : List (List ℕ)} {first a b : State} → Reads mode first lines a → Reads mode first lines b → a ≡ b
one_state_at ends ends = refl
one_state_at {mode = mode} {b = b} (line {state = state} {lines = lines} h r) (line k q) =
    one_state_at r (subst (λ (s : Statement). Reads mode (next state s) lines b) (one_statement k.reads.says h.reads.says) q)

-- no line that is read behind such lines is refused
not_read : {mode : Mode} {first state last : State} {front : List (List ℕ)} {l : List ℕ} {code : Code} (behind : List (List ℕ)) → Reads mode first front state
    → RefusesLine mode state l code → Reads mode first (front ++ l ∷ behind) last → ⊥
not_read behind ends h (line k q) = not_both h k
not_read {mode = mode} {last = last} {l = l} behind (line {state = state} {lines = lines} g r) h (line k q) =
    not_read behind r h (subst (λ (s : Statement). Reads mode (next state s) (lines ++ l ∷ behind) last) (one_statement k.reads.says g.reads.says) q)

head_is : {A : Type 0} {x y : A} {xs ys : List A} → x ∷ xs ≡ y ∷ ys → x ≡ y
head_is e = cc

tail_is : {A : Type 0} {x y : A} {xs ys : List A} → x ∷ xs ≡ y ∷ ys → xs ≡ ys
tail_is e = cc

-- the first refused line of some lines is one
one_first : {mode : Mode} {first a b : State} {front front' : List (List ℕ)} {l l' : List ℕ} {code code' : Code} (behind behind' : List (List ℕ)) → Reads mode first front a → Reads mode first front' b
    → RefusesLine mode a l code → RefusesLine mode b l' code' → front ++ l ∷ behind ≡ front' ++ l' ∷ behind' → (length front ≡ length front') × (code ≡ code')
one_first {mode = mode} {first = first} {code = code} behind behind' ends ends h k e = (refl, one_code (subst (λ (l : List ℕ). RefusesLine mode first l code) (head_is e) h) k)
one_first {mode = mode} {first = first} {code = code} behind behind' ends (line g q) h k e = absurd (not_both (subst (λ (l : List ℕ). RefusesLine mode first l code) (head_is e) h) g)
one_first {mode = mode} {first = first} {code' = code'} behind behind' (line g r) ends h k e = absurd (not_both (subst (λ (l : List ℕ). RefusesLine mode first l code') (sym (head_is e)) k) g)
one_first {mode = mode} {b = b} behind behind' (line {state = state} {first = l} {statement = s} g r) (line {first = l'} {lines = lines'} {statement = s'} g' r') h k e =
    let same : s' ≡ s = one_statement (subst (λ (bytes : List ℕ). IsLine bytes s') (sym (head_is e)) g'.reads).says g.reads.says in
    let rest = one_first behind behind' r (subst (λ (t : Statement). Reads mode (next state t) lines' b) same r') h k (tail_is e) in
    (ap suc rest.0, rest.1)

-- ---- documents

pub one_answer : (rows : List Row) (before : ℕ) (mode : Mode) (bytes : List ℕ) (refused : Refusal) → IsRefusalAfter rows before mode bytes refused → IsAcceptedAfter rows before mode bytes → ⊥
one_answer rows before mode bytes refused (inl h) (last, d) = let a = h.0 in let b = d.short in omega (arith, a, b)
one_answer rows before mode bytes refused (inr h) (last, d) =
    not_read h.1.behind h.1.accepted h.1.refused (subst (λ (ls : List (List ℕ)). Reads mode (start rows before) ls last) h.1.lines d.lines)

pub one_plan : (rows : List Row) (before : ℕ) (mode : Mode) (bytes : List ℕ) (a b : List Leg) → HasLegsAfter rows before mode bytes a → HasLegsAfter rows before mode bytes b → a ≡ b
one_plan rows before mode bytes a b (s, d, e) (t, i, j) = e ∙ ap legs_in (one_state_at d.lines i.lines) ∙ sym j

pub one_refusal : (rows : List Row) (before : ℕ) (mode : Mode) (bytes : List ℕ) (a b : Refusal) → IsRefusalAfter rows before mode bytes a → IsRefusalAfter rows before mode bytes b → a ≡ b
one_refusal rows before mode bytes a b (inl h) (inl k) = h.1 ∙ sym k.1
one_refusal rows before mode bytes a b (inl h) (inr k) = absurd (let x = h.0 in let y = k.0 in omega (arith, x, y))
one_refusal rows before mode bytes a b (inr h) (inl k) = absurd (let x = h.0 in let y = k.0 in omega (arith, x, y))
one_refusal rows before mode bytes a b (inr h) (inr k) =
    let same = one_first h.1.behind k.1.behind h.1.accepted k.1.accepted h.1.refused k.1.refused (sym h.1.lines ∙ k.1.lines) in
    let number : a.line ≡ b.line = h.1.number_is ∙ ap (λ (n : ℕ). n + 1) same.0 ∙ sym k.1.number_is in
    λ i. record { line = number i; code = same.1 i }
