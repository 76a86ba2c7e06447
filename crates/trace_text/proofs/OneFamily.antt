-- A text is the text of at most one family.
use Rattle.std.proofs.Common.{◌≡◌, ◌∙◌, sym, ap, ap₂, refl, ℕ, suc, ◌<◌, ◌≤◌, ◌+◌, arith, List, [], ◌∷◌, ◌++◌, append_assoc, append-nil, length, get_or, drop}
use Rattle.std.specs.Prelude.{codes}
use Rattle.node_core.specs.declared.entry.Entry.{Entry}
use Rattle.trace_text.specs.Naming.{Naming, AreNames}
use Rattle.trace_text.specs.Lines.{entry_text, entry_line, log_text, logs_text, family_text}
use Rattle.trace_text.specs.Entries.{IsEntryOf, AreEntriesOf, IsFamilyOf}
use Rattle.trace_text.specs.Inside.Cutting.{Lacks}
use Rattle.trace_text.specs.Reading.{owned_entries, family_entries}
use Rattle.trace_text.proofs.Words.{Lacks-append, lacks_by, Each, each_of, one_split}
use Rattle.trace_text.proofs.OneEntry.{one_line}
use Rattle.trace_text.proofs.EntryBytes.{entry_text-lacks, lf-lacks, names_below}

-- entries, each with its service
abbrev pub Owned : Type 0
Owned = ℕ × Entry

-- the lines of entries
abbrev lines : Naming → List Owned → List ℕ
lines name [] = []
lines name (x ∷ xs) = entry_line name x.0 x.1 ++ lines name xs

lines-append : (name : Naming) (xs ys : List Owned) → lines name (xs ++ ys) ≡ lines name xs ++ lines name ys
lines-append name [] ys = refl
lines-append name (x ∷ xs) ys =
    ap (λ (t : List ℕ). entry_line name x.0 x.1 ++ t) (lines-append name xs ys) ∙ sym (append_assoc (entry_line name x.0 x.1) (lines name xs) (lines name ys))

log-lines : (name : Naming) (n : ℕ) (log : List Entry) → log_text name n log ≡ lines name (owned_entries n log)
log-lines name n [] = refl
log-lines name n (x ∷ xs) = ap (λ (t : List ℕ). entry_line name n x ++ t) (log-lines name n xs)

logs-lines : (name : Naming) (n : ℕ) (logs : List (List Entry)) → logs_text name n logs ≡ lines name (family_entries n logs)
logs-lines name n [] = refl
logs-lines name n (log ∷ logs) =
    ap₂ (λ (a b : List ℕ). a ++ b) (log-lines name n log) (logs-lines name (suc n) logs) ∙ sym (lines-append name (owned_entries n log) (family_entries (suc n) logs))

-- ---- from the entries to the logs

-- each entry is of service n or one after it
abbrev From : ℕ → List Owned → Type 0
From n xs = Each (λ x. n ≤ x.0) xs

from_owned : (least n : ℕ) (log : List Entry) (rest : List Owned) → least ≤ n → From least rest → From least (owned_entries n log ++ rest)
from_owned least n [] rest le h = h
from_owned least n (x ∷ xs) rest le h = (le, from_owned least n xs rest le h)

from_all : (least n : ℕ) (logs : List (List Entry)) → least ≤ n → From least (family_entries n logs)
from_all least n [] le = tt
from_all least n (log ∷ logs) le = from_owned least n log (family_entries (suc n) logs) le (from_all least (suc n) logs (omega (arith, le)))

head : (x y : Owned) (xs ys : List Owned) → x ∷ xs ≡ y ∷ ys → x ≡ y
head x y xs ys e = ap (λ (l : List Owned). get_or l 0 x) e

tail : (x y : Owned) (xs ys : List Owned) → x ∷ xs ≡ y ∷ ys → xs ≡ ys
tail x y xs ys e = ap (λ (l : List Owned). drop 1 l) e

never_empty : (x : Owned) (xs : List Owned) → [] ≡ x ∷ xs → ⊥
never_empty x xs e = absurd (omega (arith, ap length e))

one_log : (n : ℕ) (a b : List Entry) (r s : List Owned) → From (suc n) r → From (suc n) s → owned_entries n a ++ r ≡ owned_entries n b ++ s → (a ≡ b) × (r ≡ s)
one_log n [] [] r s p q e = (refl, e)
one_log n [] (y ∷ ys) r s p q e = absurd (early r p (owned_entries n ys ++ s) e)
  where
    early : (r : List Owned) → From (suc n) r → (t : List Owned) → r ≡ (n, y) ∷ t → ⊥
    early [] p t e = never_empty (n, y) t e
    early (x ∷ xs) p t e = absurd (omega (arith, p.0, ap (λ (z : Owned). z.0) (head x (n, y) xs t e)))
one_log n (x ∷ xs) [] r s p q e = absurd (early s q (owned_entries n xs ++ r) (sym e))
  where
    early : (r : List Owned) → From (suc n) r → (t : List Owned) → r ≡ (n, x) ∷ t → ⊥
    early [] p t e = never_empty (n, x) t e
    early (y ∷ ys) p t e = absurd (omega (arith, p.0, ap (λ (z : Owned). z.0) (head y (n, x) ys t e)))
one_log n (x ∷ xs) (y ∷ ys) r s p q e =
    let rest = one_log n xs ys r s p q (tail (n, x) (n, y) (owned_entries n xs ++ r) (owned_entries n ys ++ s) e) in
    (ap₂ (λ (z : Entry) (zs : List Entry). z ∷ zs) (ap (λ (z : Owned). z.1) (head (n, x) (n, y) (owned_entries n xs ++ r) (owned_entries n ys ++ s) e)) rest.0, rest.1)

one_logs : (n : ℕ) (a b : List (List Entry)) → length a ≡ length b → family_entries n a ≡ family_entries n b → a ≡ b
one_logs n [] [] same e = refl
one_logs n [] (y ∷ ys) same e = absurd (omega (arith, same))
one_logs n (x ∷ xs) [] same e = absurd (omega (arith, same))
one_logs n (x ∷ xs) (y ∷ ys) same e =
    let parts = one_log n x y (family_entries (suc n) xs) (family_entries (suc n) ys) (from_all (suc n) (suc n) xs (omega arith)) (from_all (suc n) (suc n) ys (omega arith)) e in
    ap₂ (λ (z : List Entry) (zs : List (List Entry)). z ∷ zs) parts.0 (one_logs (suc n) xs ys (omega (arith, same)) parts.1)

-- ---- from the text to the entries

module _ (name : Naming) (count : ℕ) (names : AreNames name count) where
  abbrev pub IsOwned : Owned → Type 0
  IsOwned x = (x.0 < count) × IsEntryOf count x.1

  -- a line without its LF
  abbrev body : ℕ → Entry → List ℕ
  body n x = codes "# log " ++ (name n ++ 32 ∷ entry_text name x)

  body-lacks : (n : ℕ) (x : Entry) → n < count → IsEntryOf count x → Lacks 10 (body n x)
  body-lacks n x lt is = Lacks-append 10 (codes "# log ") _ (lacks_by 10 (codes "# log ") refl) (Lacks-append 10 (name n) (32 ∷ entry_text name x) (lf-lacks name count names.named n lt) ((λ e. omega (arith, e)), entry_text-lacks name count names.named x (names_below count x is)))

  pub line-body : (n : ℕ) (x : Entry) (rest : List ℕ) → entry_line name n x ++ rest ≡ body n x ++ 10 ∷ rest
  line-body n x rest =
      let mark : List ℕ = codes "# log " in
      append_assoc mark (name n ++ 32 ∷ (entry_text name x ++ 10 ∷ [])) rest
      ∙ ap (λ (t : List ℕ). mark ++ t) (append_assoc (name n) (32 ∷ (entry_text name x ++ 10 ∷ [])) rest ∙ ap (λ (t : List ℕ). name n ++ 32 ∷ t) (append_assoc (entry_text name x) (10 ∷ []) rest) ∙ sym (append_assoc (name n) (32 ∷ entry_text name x) (10 ∷ rest)))
      ∙ sym (append_assoc mark (name n ++ 32 ∷ entry_text name x) (10 ∷ rest))

  no_line : (n : ℕ) (x : Entry) (rest : List ℕ) → [] ≡ entry_line name n x ++ rest → ⊥
  no_line n x rest e = absurd (omega (arith, ap length e))

  one_lines : (xs ys : List Owned) → Each IsOwned xs → Each IsOwned ys → lines name xs ≡ lines name ys → xs ≡ ys
  one_lines [] [] p q e = refl
  one_lines [] (y ∷ ys) p q e = absurd (no_line y.0 y.1 (lines name ys) e)
  one_lines (x ∷ xs) [] p q e = absurd (no_line x.0 x.1 (lines name xs) (sym e))
  one_lines (x ∷ xs) (y ∷ ys) p q e =
      let parts = one_split 10 (body x.0 x.1) (body y.0 y.1) (lines name xs) (lines name ys) (body-lacks x.0 x.1 p.0.0 p.0.1) (body-lacks y.0 y.1 q.0.0 q.0.1)
      (sym (line-body x.0 x.1 (lines name xs)) ∙ e ∙ line-body y.0 y.1 (lines name ys)) in
      let whole : entry_line name x.0 x.1 ≡ entry_line name y.0 y.1 = closed x.0 x.1 ∙ ap (λ (t : List ℕ). t ++ 10 ∷ []) parts.0 ∙ sym (closed y.0 y.1) in
      let one = one_line name count names x.0 y.0 x.1 y.1 p.0.0 q.0.0 p.0.1 q.0.1 whole in
      ap₂ (λ (z : Owned) (zs : List Owned). z ∷ zs) (ap₂ (λ (n : ℕ) (z : Entry). (n, z)) one.0 one.1) (one_lines xs ys p.1 q.1 parts.1)
    where
      closed : (n : ℕ) (x : Entry) → entry_line name n x ≡ body n x ++ 10 ∷ []
      closed n x = sym (append-nil (entry_line name n x)) ∙ line-body n x []

  owned_entries-each : (n : ℕ) (log : List Entry) → n < count → Each (IsEntryOf count) log → Each IsOwned (owned_entries n log)
  owned_entries-each n [] lt h = tt
  owned_entries-each n (x ∷ xs) lt h = ((lt, h.0), owned_entries-each n xs lt h.1)

  each-append : (xs ys : List Owned) → Each IsOwned xs → Each IsOwned ys → Each IsOwned (xs ++ ys)
  each-append [] ys p q = q
  each-append (x ∷ xs) ys p q = (p.0, each-append xs ys p.1 q)

  pub all-each : (n : ℕ) (logs : List (List Entry)) → n + length logs ≤ count → Each (AreEntriesOf count) logs → Each IsOwned (family_entries n logs)
  all-each n [] le h = tt
  all-each n (log ∷ logs) le h =
      each-append (owned_entries n log) (family_entries (suc n) logs) (owned_entries-each n log (omega (arith, le)) (each_of (IsEntryOf count) log h.0)) (all-each (suc n) logs (omega (arith, le)) h.1)

  pub one_family : (a b : List (List Entry)) → IsFamilyOf count a → IsFamilyOf count b → family_text name a ≡ family_text name b → a ≡ b
  one_family a b p q e =
      one_logs 0 a b (p.logs ∙ sym q.logs)
      (one_lines (family_entries 0 a) (family_entries 0 b)
      (all-each 0 a (omega (arith, p.logs)) (each_of (AreEntriesOf count) a p.entries)) (all-each 0 b (omega (arith, q.logs)) (each_of (AreEntriesOf count) b q.entries))
      (sym (logs-lines name 0 a) ∙ e ∙ logs-lines name 0 b))
