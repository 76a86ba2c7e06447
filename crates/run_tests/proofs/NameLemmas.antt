-- The names of a book, taken one after another.
use Rattle.std.proofs.Common.{◌≡◌, ◌∙◌, sym, ap, subst, refl, ℕ, zero, suc, ◌<◌, ◌+◌, arith, List, [], ◌∷◌, ◌++◌, length, ◌⊎◌, inl, inr}
use Rattle.std.proofs.Math.Nat.{eq-or-lt_of_le}
use Rattle.std.proofs.lemmas.List.{length-append}
use Rattle.svc_graph.specs.Book.{IsBook}
use Rattle.svc_graph.specs.History.{Row}
use Rattle.svc_token.specs.Word.{IsName}
use Rattle.trace_text.specs.Laws.{BooksAreNamed}
use Rattle.trace_text.specs.Named.{naming}
use Rattle.trace_text.specs.Names.{HaveNames}
use Rattle.trace_text.specs.Naming.{AreNames, naming_of}

-- the names are those of the first `count` services, and they are names of the document language
pub record AreTaken (names : List (List ℕ)) (rows : List Row) (count : ℕ) : Type 0 where
  pub long : length names ≡ count
  pub same : (n : ℕ) → n < count → naming_of names n ≡ naming rows n
  pub named : (n : ℕ) → n < count → IsName (naming rows n)

pub none_taken : (names : List (List ℕ)) (rows : List Row) → names ≡ [] → AreTaken names rows 0
none_taken names rows none =
    record { long = ap (λ (ns : List (List ℕ)). length ns) none; same = λ n less. absurd (omega (arith, less)); named = λ n less. absurd (omega (arith, less)) }

at_front : (names : List (List ℕ)) (name : List ℕ) (n : ℕ) → n < length names → naming_of (names ++ name ∷ []) n ≡ naming_of names n
at_front [] name n less = absurd (omega (arith, less))
at_front (first ∷ names) name zero less = refl
at_front (first ∷ names) name (suc n) less = at_front names name n (omega (arith, less))

at_end : (names : List (List ℕ)) (name : List ℕ) → naming_of (names ++ name ∷ []) (length names) ≡ name
at_end [] name = refl
at_end (first ∷ names) name = at_end names name

pub one_more_taken : (names : List (List ℕ)) (rows : List Row) (count : ℕ) (name : List ℕ) → AreTaken names rows count → name ≡ naming rows count → IsName name →
    AreTaken (names ++ name ∷ []) rows (count + 1)
one_more_taken names rows count name taken is named =
    record { long = omega (arith, length-append names (name ∷ []), taken.long); same = same; named = each }
  where
    last : naming_of (names ++ name ∷ []) count ≡ naming rows count
    last = ap (λ (k : ℕ). naming_of (names ++ name ∷ []) k) (sym taken.long) ∙ at_end names name ∙ is

    same_by : (n : ℕ) → (n ≡ count) ⊎ (n < count) → naming_of (names ++ name ∷ []) n ≡ naming rows n
    same_by n (inl is_last) = ap (naming_of (names ++ name ∷ [])) is_last ∙ last ∙ ap (naming rows) (sym is_last)
    same_by n (inr before) = at_front names name n (omega (arith, before, taken.long)) ∙ taken.same n before

    same : (n : ℕ) → n < count + 1 → naming_of (names ++ name ∷ []) n ≡ naming rows n
    same n less = same_by n (eq-or-lt_of_le (omega (arith, less)))

    each_by : (n : ℕ) → (n ≡ count) ⊎ (n < count) → IsName (naming rows n)
    each_by n (inl is_last) = subst IsName (is ∙ ap (naming rows) (sym is_last)) named
    each_by n (inr before) = taken.named n before

    each : (n : ℕ) → n < count + 1 → IsName (naming rows n)
    each n less = each_by n (eq-or-lt_of_le (omega (arith, less)))

have_names : (rows : List Row) → ((n : ℕ) → n < length rows → IsName (naming rows n)) → HaveNames rows
have_names [] named = tt
have_names (row ∷ rows) named = (named 0 (omega arith), have_names rows (λ n less. named (suc n) (omega (arith, less))))

pub all_taken : BooksAreNamed → (names : List (List ℕ)) (rows : List Row) → IsBook rows → AreTaken names rows (length rows) → AreNames (naming_of names) (length names)
all_taken law names rows book taken =
    let these = law rows (have_names rows taken.named) book in
    subst (λ (k : ℕ). AreNames (naming_of names) k) (sym taken.long)
    (record {
      named = λ n less. subst IsName (sym (taken.same n less)) (these.named n less);
      apart = λ n m p q e. these.apart n m p q (sym (taken.same n p) ∙ e ∙ taken.same m q);
    })
